use Rattle.smx_model.proofs.Common.{sym, subst, refl, ◌∙◌, arith, fd_before, IsRising}
use Rattle.smx_streams.specs.StreamTables.{StreamTable, AreHungsSound, HasOneLess}
use Rattle.smx_streams.specs.TableFields.{IsWhole, table_of}
use Rattle.smx_streams.proofs.NameLemmas.{names_after_take, names_some}
use Rattle.smx_streams.proofs.HungLemmas.{are_sound, kept, left, same_number}
use Rattle.smx_streams.proofs.WentLemmas.{went_is_named}
use Rattle.smx_streams.proofs.streams.Streams.close_fd.Goals as goal
use Rattle.smx_streams.proofs.streams.Streams.close_fd.Goals.{After-close}

pub close-requires : goal.close-requires
close-requires c = grind (arith, names_some, c.self.invariant.named c.in_ok-stream.stream)

-- the records count the remaining descriptors
whole : (c : After-close) → IsWhole (record c.self.inside { descriptors = c.take.new.self; records = c.close.new.self })
whole c = record {
  named = λ s. c.close.ensures.set.opens_now s
      ∙ rw (c.in_ok-stream.ensures.rest)
      (names_after_take c.self.inside.records.opens s c.in_ok-stream.stream c.args.process c.args.fd
      c.self.inside.descriptors.fds c.self.invariant.named c.self.invariant.listed.rise
      (sym c.in_ok-stream.ensures.stream));
  listed = c.in_ok-stream.ensures.listed;
  records = c.close.ensures.sound;
}

-- the table has one descriptor less
less : (c : After-close) → HasOneLess c.args.self.now c.args.process c.args.fd
    (table_of (record c.self.inside { descriptors = c.take.new.self; records = c.close.new.self }))
less c =
    let new = table_of (record c.self.inside { descriptors = c.take.new.self; records = c.close.new.self }) in
    subst (λ (t : StreamTable). HasOneLess t c.args.process c.args.fd new) c.self.view_is (record {
      minors = c.close.ensures.set.minors;
      fds = c.in_ok-stream.ensures.rest;
      holds = λ x. c.close.ensures.set.holds_now x
          ∙ same_number c.self.inside.records.holds x c.in_ok-stream.stream _ refl;
      hungs = left c.self.inside.records c.close.new.self (table_of c.self.inside) new
          c.in_ok-stream.stream _ _ c.close.ensures.set c.self.invariant.records.hung (whole c).named refl refl refl;
    })

pub returns-in_err-stream-clause-rest : goal.returns-in_err-stream-clause-rest
returns-in_err-stream-clause-rest c = grind (arith, kept c.self.inside.records (table_of c.self.inside))

pub invariant_of-self-2 : goal.invariant_of-self-2
invariant_of-self-2 c = whole (goal.at.invariant_of-self-2 c).After-close

pub returns-clause-rest : goal.returns-clause-rest
returns-clause-rest c = less (goal.at.returns-clause-rest c).After-close

pub returns-clause-went : goal.returns-clause-went
returns-clause-went c = λ s was gone.
    went_is_named _ _ s _ _
    (subst (λ (t : StreamTable). IsRising fd_before t.fds) c.self.view_is c.self.invariant.listed.rise)
    (less (goal.at.returns-clause-went c).After-close) was gone

pub returns-in_err-stream-clause-sound : goal.returns-in_err-stream-clause-sound
returns-in_err-stream-clause-sound c = subst AreHungsSound c.self.view_is (are_sound c.self.inside c.self.invariant)

pub returns-clause-sound : goal.returns-clause-sound
returns-clause-sound c = subst AreHungsSound c.self.view_is (are_sound c.self.inside c.self.invariant)
