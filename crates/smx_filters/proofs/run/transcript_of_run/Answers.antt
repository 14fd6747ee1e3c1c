use Rattle.smx_filters.proofs.Common.{◌≡◌, List, subst, ◌∙◌, inl, Entry}
use Rattle.smx_model.specs.Histories.{after}
use Rattle.smx_model.specs.Views.{view}
use Rattle.smx_text.specs.GrowingTranscripts.{AreEntryLines}
use Rattle.smx_filters.proofs.InVersionLemmas.{transcript_written}
use Rattle.smx_filters.proofs.run.transcript_of_run.Goals as goal

pub returns-clause-written : goal.returns-clause-written
returns-clause-written g c =
    let s = c.in_ok-system.system in
    let run = c.in_ok-system.ensures in
    let parts = c.into_parts-lines.ensures in
    let finish = c.in_ok-finish_transcript.ensures in
    let drivers : c.deref.result.now ≡ s.drivers =
    c.deref.ensures.value ∙ c.in_ok-drivers.ensures ∙ c.drivers.ensures.value ∙ parts.drivers in
    let shown : c.in_ok-view.view ≡ view s.drivers (after s.drivers s.history) =
    rw (parts.drivers, parts.now) at c.in_ok-view.ensures in
    let lines : AreEntryLines s.history c.in_ok-into_lines.field-0.items =
    subst (λ (es : List Entry). AreEntryLines es c.in_ok-into_lines.field-0.items) parts.given
    c.in_ok-into_lines.ensures in
    transcript_written c.args.workers c.args.programs s c.version-version.result c.deref.result.now c.in_ok-view.view
    c.in_ok-into_lines.field-0.items _ c.version-version.ensures.within run.report run.few
    c.version-version.ensures.version drivers shown lines finish.written finish.spellable
    (λ few. run.in_turn (inl few))
