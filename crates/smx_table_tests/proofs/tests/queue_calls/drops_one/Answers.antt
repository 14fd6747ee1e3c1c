use Rattle.std.proofs.Common.{◌≤◌, List, [], ◌∷◌, length, arith, rules, inl, inr}
use Rattle.std.proofs.lemmas.Bool.{cases_Bool}
use Rattle.smx_types.specs.declared.stream.Place.{Place}
use Rattle.smx_types.specs.declared.stream.Side.TheVariants.{Write}
use Rattle.smx_model.specs.Configuration.{QueuedMessage, is_at}
use Rattle.smx_model.specs.Queues.{queue}
use Rattle.smx_table_tests.proofs.tests.queue_calls.drops_one.Goals as goal

-- a place has no more messages than all places together
at_most_all : (flow : List QueuedMessage) (p : Place) → length (queue flow p) ≤ length flow
at_most_all [] p = omega arith
at_most_all (h ∷ hs) p = elim (cases_Bool (is_at p h))
    [ inl t ↦ rw t (omega (arith, at_most_all hs p)) | inr f ↦ rw f (omega (arith, at_most_all hs p)) ]

pub drop_at-requires : goal.drop_at-requires
drop_at-requires g c = search (
  rules,
  arith,
  c.len.ensures,
  c.with_capacity.ensures,
  c.expect-dropped.ensures,
  at_most_all c.args.table.now.flow (record { stream = record { driver = 0; minor = 0 }; side = Write }),
)
