use Rattle.smx_model.proofs.Common.{◌≡◌, length, take}
use Rattle.smx_links.specs.Masks.{AreMasks}
use Rattle.smx_links.proofs.masks.recompute.Given as goal

abbrev pub invariant-loop-link : goal.invariant-loop-link
invariant-loop-link l = record {
  long : length l.words ≡ length l.fn.words;
  masks : AreMasks (take l.link-index l.links) l.words;
}
