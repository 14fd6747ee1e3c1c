use Rattle.smx_live.proofs.Common.{◌++◌, ℕ, List, inr, refl, ⊤, IsOver}
use Rattle.smx_live.specs.LiveStages.{IsPossible}
use Rattle.smx_live.specs.LiveText.{cut_words}
use Rattle.smx_live.proofs.LiveLemmas.{at_its_end}
use Rattle.smx_live.proofs.LiveStageLemmas.{said}
use Rattle.smx_live.proofs.live.finish.Goals as goal

pub returns : goal.returns
returns g c =
    let held = c.args.held.now in
    let sink = c.say.new.sink in λ explain read output ended l end short.
    let over : IsOver explain read ended (output ++ c.as_slice-2.result.now) =
    rw (
      c.as_slice-2.ensures.value,
      c.in_ok-extend_from_slice.ensures.items,
      c.in_ok-text.ensures.items,
      c.cut_words.ensures,
      c.as_slice.ensures.value,
      c.in_ok-shown.ensures.written,
    ) (at_its_end l (cut_words held) (inr (end, short, refl)) c.in_ok-shown.ensures.spellable) in
    said c.as_slice-2.result.now tt (λ done (t : List ℕ). IsOver explain read ended (output ++ t))
    (IsPossible explain read output ended) ⊤ (g.S.Sink.contents c.args.sink.now) (g.S.Sink.contents sink)
    (g.S.Sink.flushed sink) (g.S.Sink.failures sink) c.say.result c.say.ensures over (inr over)
