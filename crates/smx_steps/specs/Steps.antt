-- The steps of a page: each is a section with its name, its lines and its picture.
use Rattle.std.specs.Prelude.{◌≡◌, ℕ, suc, true, List, [], ◌∷◌, ◌++◌, codes}
use Rattle.std.specs.Fmt.{decimal}
use Rattle.smx_types.specs.declared.command.Entry.{Entry}
use Rattle.smx_types.specs.declared.driver.DriverSpec.{DriverSpec}
use Rattle.smx_types.specs.declared.view.ConfigView.{ConfigView}
use Rattle.smx_model.specs.Commands.{step}
use Rattle.smx_model.specs.Configuration.{Configuration}
use Rattle.smx_model.specs.Views.{view}
use Rattle.smx_draw.specs.SvgText.{IsSvgOf}
use Rattle.smx_trace.specs.Traces.{lines_of_entry, trace_lines_text}
use Rattle.smx_steps.specs.Escapes.{escaped}

-- a step with this name: its lines, and below them its picture
abbrev pub step_text : List ℕ → List ℕ → List ℕ → List ℕ
step_text name lines picture =
    codes "<section id='" ++ (name ++ (codes "'>\n<h2>" ++ (name ++ (codes "</h2>\n<pre>" ++ (escaped lines
    ++ (codes "</pre>\n" ++ (picture ++ codes "</section>\n")))))))

-- the text `after` is `before`, followed by a step with this name, these lines, and a picture of this view
pub record AddsStep (drivers : List DriverSpec) (v : ConfigView) (name lines before after : List ℕ) : Type 0 where
  pub picture : List ℕ
  pub drawn : IsSvgOf drivers v picture
  pub written : after ≡ before ++ step_text name lines picture

-- the lines of an entry that is performed in this configuration: those of a trace with all waits below each entry
abbrev pub lines_of_step : List DriverSpec → Configuration → Entry → List ℕ
lines_of_step drivers c e = trace_lines_text drivers (lines_of_entry true drivers c e)

-- The step of such an entry. Its name is its number. The picture is that of the view after it.
abbrev pub AddsEntry : List DriverSpec → Configuration → ℕ → Entry → List ℕ → List ℕ → Type 0
AddsEntry drivers c number e before after =
    AddsStep drivers (view drivers (step drivers c e.process e.command).0) (decimal number)
    (lines_of_step drivers c e) before after

-- a step for each of these entries, in order, and nothing else; this number of entries come before them
abbrev pub AddsSteps : List DriverSpec → Configuration → ℕ → List Entry → List ℕ → List ℕ → Type 0
AddsSteps drivers c number [] before after = after ≡ before
AddsSteps drivers c number (e ∷ es) before after =
    (middle : List ℕ) × AddsEntry drivers c (suc number) e before middle
    × AddsSteps drivers (step drivers c e.process e.command).0 (suc number) es middle after
