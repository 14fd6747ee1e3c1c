use Rattle.smx_model.proofs.Common.{not, ap, sym, subst, arith, filter, ◌<◌, ◌∙◌, List, inl, inr, cases_Bool}
use Rattle.smx_model.proofs.Common.{All, MAX_DESCRIPTORS, Descriptor, is_fd}
use Rattle.std.proofs.Math.Nat.{eq-zero-or-pos}
use Rattle.smx_streams.specs.StreamTables.{StreamTable, exists, stream_at}
use Rattle.smx_streams.proofs.WentLemmas.{at_next, closed_all, closed_more, closed_none}
use Rattle.smx_streams.proofs.HungLemmas.{left_again}
use Rattle.smx_streams.proofs.streams.Streams.close_process.Goals as goal

pub loop-fd-init : goal.loop-fd-init
loop-fd-init c = grind (arith, closed_none c.args.process c.args.self.now.fds)

pub loop-fd-preserved : goal.loop-fd-preserved
loop-fd-preserved c = record {
  minors = c.close_fd-closed.ensures.rest.minors ∙ c.loop-fd.invariant.minors;
  fds = c.close_fd-closed.ensures.rest.fds
      ∙ ap (λ (ds : List Descriptor). filter (λ d. not (is_fd c.args.process c.loop-fd.fd d)) ds)
      c.loop-fd.invariant.fds ∙ closed_more c.args.process c.loop-fd.fd c.args.self.now.fds;
  holds = λ x. c.close_fd-closed.ensures.rest.holds x ∙ c.loop-fd.invariant.holds x;
  start = λ zero. absurd (omega (arith, zero));
  hungs = λ some. c.close_fd-closed.ensures.rest.hungs ∙ elim (eq-zero-or-pos c.loop-fd.fd) [
    | inl zero ↦ ap (λ (t : StreamTable). filter (exists c.close_fd-closed.new.self) t.hungs)
        (c.loop-fd.invariant.start zero)
    | inr later ↦ left_again c.loop-fd.self c.close_fd-closed.new.self c.args.process c.loop-fd.fd _ _
        c.close_fd-closed.ensures.rest (c.loop-fd.invariant.hungs later)
  ];
  numbered = λ some. elim (eq-zero-or-pos c.loop-fd.fd) [
    | inl zero ↦ subst (λ (t : StreamTable). All (λ d. d.fd < MAX_DESCRIPTORS) t.fds)
        (c.loop-fd.invariant.start zero) c.close_fd-closed.ensures.numbered
    | inr later ↦ c.loop-fd.invariant.numbered later
  ];
  went = λ s there gone. elim (cases_Bool (exists c.loop-fd.self s)) [
    | inl still ↦ (
      c.loop-fd.fd,
      omega arith,
      sym (at_next c.args.process c.loop-fd.fd c.args.self.now.fds)
          ∙ ap (λ (ds : List Descriptor). stream_at ds c.args.process c.loop-fd.fd) (sym c.loop-fd.invariant.fds)
          ∙ c.close_fd-closed.ensures.went s still gone,
    )
    | inr before ↦ let at = c.loop-fd.invariant.went s there before in let lt = at.1 in (at.0, omega (arith, lt), at.2)
  ];
}

pub returns-clause-rest : goal.returns-clause-rest
returns-clause-rest c =
    grind (
      arith,
      closed_all c.args.process c.loop-fd.fd c.args.self.now.fds (omega arith)
          (c.loop-fd.invariant.numbered (omega arith)),
      c.loop-fd.invariant.numbered (omega arith),
      c.loop-fd.invariant.hungs (omega arith),
    )
