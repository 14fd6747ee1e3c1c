-- The step of a beginning, the step of an entry, and the limits of a page, typed in by hand.
use Rattle.std.specs.Prelude.{◌≡◌, ℕ, List, [], ◌∷◌, ◌++◌, codes, take, refl}
use Rattle.std.specs.Fmt.{digits}
use Rattle.smx_types.specs.declared.stream.Side.TheVariants as side
use Rattle.smx_types.specs.declared.view.ConfigView.{ConfigView}
use Rattle.smx_model.specs.Worked.Common.{Route, Done, Ordinary, after, ◌does◌gets◌, ip, eth, ip_over_eth}
use Rattle.smx_model.specs.Worked.Common.{no_lines, fds_of_ip_eth, link_of, route_of, message_at}
use Rattle.smx_draw.specs.SvgText.{IsSvgOf}
use Rattle.smx_trace.specs.WorkedTraces.{hanging_up, waiting}
use Rattle.smx_steps.specs.Escapes.{escaped}
use Rattle.smx_steps.specs.Pages.{AddsBeginning}
use Rattle.smx_steps.specs.Steps.{AddsEntry, step_text}
use Rattle.smx_steps.specs.declared.pages.TheConstants.{MAX_PAGE, MAX_STEPS}

-- the three signs that HTML would take for its own
pub signs_shown : escaped (codes "~ msg 3 w -> r <&") ≡ codes "~ msg 3 w -&gt; r &lt;&amp;"
signs_shown = refl

-- a step has its name as its address, its lines, and below them its picture
pub step_shown : step_text (codes "12") (codes "0 exit = done\n") (codes "<svg></svg>\n")
    ≡ codes "<section id='12'>\n<h2>12</h2>\n<pre>0 exit = done\n</pre>\n<svg></svg>\n</section>\n"
step_shown = refl

-- the step of the beginning has the header of the transcript, which is of version 2 here, and the lines of the drivers;
-- its picture is that of a view without lines
pub beginning_shown : (picture : List ℕ) → IsSvgOf ip_over_eth (no_lines 1 1) picture
    → AddsBeginning hanging_up [] (step_text (codes "beginning")
    (codes "transcript 2\ndriver ip mux 4 8 3 16\ndriver eth leaf 2 8 3 16\n") picture)
unfolding digits
beginning_shown picture drawn = record { picture = picture; drawn = drawn; written = refl }

-- the view after a route, by which a message has moved on to the device
abbrev pub moved_on : ConfigView
moved_on = record (no_lines 2 2) {
  fds = fds_of_ip_eth;
  links = link_of 1 ip 0 eth 0 Ordinary ∷ [];
  routes = route_of ip 5 1 ∷ [];
  msgs = message_at eth 0 side.Write 1 5 (170 ∷ []) ∷ [];
}

-- the step of this route, the fifth entry, has the entry, its changes and what waits after it; its picture is that of
-- the view after it
pub entry_shown : (picture : List ℕ) → IsSvgOf ip_over_eth moved_on picture
    → AddsEntry ip_over_eth (after ip_over_eth (take 4 waiting.entries)) 5 (0 does Route 0 5 1 gets Done []) []
    (step_text (codes "5") (codes "0 route 0 5 1 = done\n  + route ip 5 1\n  ~ msg 1 ip 0 w -> eth 0 w\n"
    ++ codes "  waits eth 0 w 1: for the device\n") picture)
unfolding digits
entry_shown picture drawn = record { picture = picture; drawn = drawn; written = refl }

-- the limit of entries
pub most_steps : MAX_STEPS ≡ 1000
most_steps = refl

-- the limit of bytes
pub most_bytes : MAX_PAGE ≡ 33554432
most_bytes = refl
