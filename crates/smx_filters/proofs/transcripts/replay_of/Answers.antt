use Rattle.smx_filters.proofs.Common.{ℕ, List, Option, Some, None, ap, arith, length, subst, sym, Entry}
use Rattle.smx_filters.proofs.Common.{Transcript}
use Rattle.smx_trace.specs.Replays.{IsReplayText}
use Rattle.smx_run.specs.declared.product.Product.TheVariants.{Replay}
use Rattle.smx_filters.specs.Products.{IsPastEnd, IsProductOf, asked_part}
use Rattle.smx_filters.proofs.ReplayTextLemmas.{replay_made}
use Rattle.smx_filters.proofs.transcripts.replay_of.Goals as goal

pub returns-in_default-clause-made : goal.returns-in_default-clause-made
returns-in_default-clause-made c =
    let t = c.args.transcript in
    let text = c.in_ok-replay.field-0.items in
    subst (λ (at : Option ℕ). IsProductOf (Replay at) t text) (sym c.in_default.is)
    (replay_made None t c.requires (λ past. past) text c.in_ok-replay.ensures.written)

pub returns-clause-made : goal.returns-clause-made
returns-clause-made c =
    let t = c.args.transcript in
    let text = c.in_ok-replay-2.field-0.items in
    let count = c.in-Some.count in
    let entries = ap (λ (es : List Entry). length es) c.as_slice-entries.ensures in
    let enough : IsPastEnd (Some count) t → ⊥ = λ past. omega (arith, past, c.if-entries-count.false, entries) in
    let written : IsReplayText (asked_part (Some count) t) text =
    subst (λ (part : Transcript). IsReplayText part text) c.first_entries.ensures c.in_ok-replay-2.ensures.written in
    subst (λ (at : Option ℕ). IsProductOf (Replay at) t text) (sym c.in-Some.is)
    (replay_made (Some count) t c.requires enough text written)
