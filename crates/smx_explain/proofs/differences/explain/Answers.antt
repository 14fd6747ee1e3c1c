use Rattle.smx_explain.proofs.Common.{subst, AreAlike}
use Rattle.smx_model.proofs.QuietHistoryLemmas.{quiet_replies, quiet_streams}
use Rattle.smx_text.proofs.TranscriptGrammarLemmas.{versions}
use Rattle.smx_text.proofs.VersionLemmas.{one_reading_of_all}
use Rattle.smx_text.specs.TranscriptText.{transcript_grammar}
use Rattle.smx_trace.proofs.QuietLemmas.{can_be_expressed}
use Rattle.smx_explain.proofs.ExplanationLemmas.{reports_nothing}
use Rattle.smx_explain.proofs.differences.explain.Goals as goal

pub returns-clause-told : goal.returns-clause-told
returns-clause-told c =
    let text = c.args.text.now in
    let alike = subst (λ other. AreAlike text other) c.as_slice.ensures.value c.in-None.ensures in
    reports_nothing c.args.transcript text c.in_ok-replayed.replayed.items c.requires c.in_ok-replayed.ensures.written
    (one_reading_of_all transcript_grammar versions) (can_be_expressed quiet_replies quiet_streams) _ alike
    c.new.ensures.items
