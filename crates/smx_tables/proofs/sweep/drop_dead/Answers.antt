use Rattle.smx_tables.proofs.Common.{◌∙◌, List, ap, refl, arith, take_more, StreamId, Configuration, configuration_of}
use Rattle.smx_tables.proofs.Common.{is_dead, without_streams}
use Rattle.std.proofs.lemmas.List.{take_all}
use Rattle.smx_tables.proofs.DeadStreamLemmas.{all_gone, none_gone_yet, one_more_gone}
use Rattle.smx_tables.proofs.sweep.drop_dead.Goals as goal

pub loop-stream-init : goal.loop-stream-init
loop-stream-init c = record {
  value = none_gone_yet (configuration_of c.args.lists.now) c.args.lists.now.streams;
  streams = refl;
  drivers = refl;
  dropped = λ old h. h;
  room = c.requires.room;
}

pub loop-stream-preserved : goal.loop-stream-preserved
loop-stream-preserved c =
    let old = c.args.lists.now in
    let i = c.loop-stream.stream-index in
    let more = take_more c.args.seen.now i (record { driver = 0; minor = 0 }) (omega arith) in
    record {
      value = one_more_gone (configuration_of old) (configuration_of c.loop-stream.lists)
          (configuration_of c.drop_if_dead.new.lists)
          old.streams _ c.args.seen.now i _ c.loop-stream.invariant.streams more c.loop-stream.invariant.value
          c.drop_if_dead.ensures.value;
      streams = c.drop_if_dead.ensures.streams ∙ c.loop-stream.invariant.streams;
      drivers = c.drop_if_dead.ensures.drivers ∙ c.loop-stream.invariant.drivers;
      dropped = λ old h. c.drop_if_dead.ensures.dropped old (c.loop-stream.invariant.dropped old h);
      room = c.drop_if_dead.ensures.room;
    }

pub returns-clause-value : goal.returns-clause-value
returns-clause-value c = λ drivers told.
    let old = c.args.lists.now in
    let seen = take_all c.loop-stream.stream-index c.args.seen.now (omega arith) in
    c.loop-stream.invariant.value
    ∙ ap (λ (ss : List StreamId). without_streams (configuration_of old) (is_dead old.streams ss)) seen
    ∙ all_gone drivers (configuration_of old) old.streams c.args.seen.now told c.requires.seen
    c.requires.hungs

pub returns-clause-kept : goal.returns-clause-kept
returns-clause-kept c = record {
  held = rw (ap (λ (x : Configuration). x.links) c.loop-stream.invariant.value, c.loop-stream.invariant.streams)
      c.requires.kept.held;
}
