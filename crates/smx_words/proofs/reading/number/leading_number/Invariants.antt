use Rattle.smx_words.proofs.Common.{◌≡◌, ◌+◌, ◌^◌, ◌<◌, ◌≤◌, ◌-◌, length, take, drop, is_ascii_digit, digits_value}
use Rattle.std.specs.List.{prefix_len}
use Rattle.smx_words.proofs.reading.number.leading_number.Given as goal

abbrev pub invariant-digits : goal.invariant-digits
invariant-digits l = record {
  in_it : l.end ≤ length l.text;
  leads : prefix_len is_ascii_digit l.text ≡ l.end + prefix_len is_ascii_digit (drop l.end l.text);
  value : l.value ≡ digits_value 10 (take l.end l.text);
  small : l.value < 2 ^ 32;
}

abbrev pub decreases-digits : goal.decreases-digits
decreases-digits l = length l.text - l.end
