use Rattle.std.proofs.Common.{rules, arith, refl, [], ◌∷◌}
use Rattle.std.specs.Fmt.{digits}
use Rattle.std.specs.Prelude.{codes}
use Rattle.hex.specs.Hex.{decode_pairs, encode_with}
use Rattle.smx_words.proofs.DecidedCommandLemmas.{command_has_words}
use Rattle.smx_words.proofs.DecidedWordLemmas.{bytes, flush_sides, id_or_all, name, number}
use Rattle.smx_text.proofs.WrongCommandLemmas.{misspelled}
use Rattle.smx_text.proofs.worked_texts.wrong_commands.Goals as goal

pub returns : goal.returns
unfolding digits command_has_words number name bytes id_or_all decode_pairs encode_with flush_sides
returns c = record {
  two_zeros = misspelled (codes "dup" ∷ codes "00" ∷ []) (search (rules, arith)) refl (refl, refl, refl);
  a_sign = misspelled (codes "dup" ∷ codes "+1" ∷ []) (search (rules, arith)) refl (refl, refl, refl);
  two_spaces = misspelled (codes "close" ∷ [] ∷ codes "0" ∷ []) (search (rules, arith)) refl (refl, refl, refl);
  a_last_space = misspelled (codes "close" ∷ codes "0" ∷ [] ∷ []) (search (rules, arith)) refl (refl, refl, refl);
  large_number = misspelled (codes "open" ∷ codes "ip" ∷ codes "4294967296" ∷ [])
      (search (rules, arith)) refl (refl, refl, refl);
  digit_first = misspelled (codes "open" ∷ codes "9a" ∷ codes "0" ∷ [])
      (search (rules, arith)) refl (refl, refl, refl);
  nine_letters = misspelled (codes "clone" ∷ codes "ninelette" ∷ []) (search (rules, arith)) refl (refl, refl, refl);
  missing_word = misspelled (codes "link" ∷ codes "0" ∷ []) (search (rules, arith)) refl (refl, refl, refl);
  capitals = misspelled (codes "unlink" ∷ codes "0" ∷ codes "ALL" ∷ [])
      (search (rules, arith)) refl (refl, refl, refl);
  sides_turned = misspelled (codes "flush" ∷ codes "0" ∷ codes "wr" ∷ [])
      (search (rules, arith)) refl (refl, refl, refl);
  capital_digits = misspelled (codes "write" ∷ codes "0" ∷ codes "5" ∷ codes "AA" ∷ [])
      (search (rules, arith)) refl (refl, refl, refl);
  odd_digits = misspelled (codes "write" ∷ codes "0" ∷ codes "5" ∷ codes "aab" ∷ [])
      (search (rules, arith)) refl (refl, refl, refl);
  missing_bytes = misspelled (codes "write" ∷ codes "0" ∷ codes "5" ∷ [])
      (search (rules, arith)) refl (refl, refl, refl);
  no_word = misspelled ([] ∷ []) (search (rules, arith)) refl (refl, refl, refl);
}
