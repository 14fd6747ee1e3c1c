use Rattle.smx_draw.proofs.PictureLemmas.{each_in_dot, each_in_svg, foot_in_svg}
use Rattle.smx_draw.proofs.laws_of_pictures.each_part_has_its_element.Goals as goal

pub returns-clause-svg : goal.returns-clause-svg
returns-clause-svg c = λ t output. each_in_svg t.drivers t.view output

pub returns-clause-next : goal.returns-clause-next
returns-clause-next c = λ t output. foot_in_svg t.drivers t.view output

pub returns-clause-dot : goal.returns-clause-dot
returns-clause-dot c = λ t output. each_in_dot t.drivers t.view output
