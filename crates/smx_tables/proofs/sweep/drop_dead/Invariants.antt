use Rattle.smx_tables.proofs.Common.{◌≡◌, take, configuration_of, is_dead, without_streams}
use Rattle.smx_tables.specs.DroppedMessages.{DropsMore, HasRoom}
use Rattle.smx_tables.specs.ModelOfLists.{sizes_of}
use Rattle.smx_tables.proofs.sweep.drop_dead.Given as goal

abbrev pub invariant-loop-stream : goal.invariant-loop-stream
invariant-loop-stream l = record {
  value : configuration_of l.lists
      ≡ without_streams (configuration_of l.initial.lists)
      (is_dead l.initial.lists.streams (take l.stream-index l.seen));
  streams : l.lists.streams ≡ l.initial.lists.streams;
  drivers : sizes_of l.lists ≡ sizes_of l.initial.lists;
  dropped : DropsMore l.initial.lists.queues.flow l.initial.dropped.items l.lists.queues.flow l.dropped.items;
  room : HasRoom l.dropped l.lists.queues.flow;
}
