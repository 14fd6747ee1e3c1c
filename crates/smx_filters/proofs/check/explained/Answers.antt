use Rattle.smx_filters.proofs.Common.{◌≡◌, ℕ, ap, rules, subst, sym, Global, Legal, Spells, Vec, Version}
use Rattle.smx_filters.proofs.Common.{transcript_grammar}
use Rattle.smx_filters.proofs.CheckTextLemmas.{legal_explained}
use Rattle.smx_filters.proofs.check.explained.Goals as goal

pub returns-then-eq : goal.returns-then-eq
returns-then-eq c =
    let read = c.in_ok-transcript.ensures in
    let t = c.in_ok-transcript.transcript in
    let legal : c.in_ok-verdict.verdict ≡ Legal = search rules in
    let output = ap (λ (v : Vec ℕ Global). v.items) c.into_bytes-output.ensures.value in
    (read.0, t, read.1, legal_explained read.0 _ t read.1 _ legal _ _ c.in_ok-verdict.ensures.judged output)

pub explain-requires : goal.explain-requires
explain-requires c =
    let read = c.in_ok-transcript.ensures in
    let t = c.in_ok-transcript.transcript in
    subst (λ (version : Version). Spells (transcript_grammar version) c.args.input.now t)
    (sym read.1.allowed.version_is) read.1
