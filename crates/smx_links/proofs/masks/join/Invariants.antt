use Rattle.smx_model.proofs.Common.{◌≡◌, ◌<◌, ◌≤◌, length, ℕ, get_or}
use Rattle.smx_links.proofs.BitLemmas.{joined_word}
use Rattle.smx_links.proofs.masks.join.Given as goal

abbrev pub invariant-loop-a : goal.invariant-loop-a
invariant-loop-a l = record {
  long : length l.words ≡ length l.fn.words;
  done : (k : ℕ) → k < l.a → get_or l.words k 0 ≡ joined_word l.fn.words l.upper l.reached k;
  rest : (k : ℕ) → l.a ≤ k → get_or l.words k 0 ≡ get_or l.fn.words k 0;
}
