use Rattle.smx_words.proofs.DecidedCommandLemmas.{call_has_words, command_has_words, entry_has_words}
use Rattle.smx_words.proofs.DecidedLemmas.{one_line}
use Rattle.smx_words.proofs.DecidedLineLemmas.{bind_has_words, descriptor_has_words, driver_has_words, full_has_words}
use Rattle.smx_words.proofs.DecidedLineLemmas.{hung_has_words, link_has_words, message_has_words, next_has_words}
use Rattle.smx_words.proofs.DecidedLineLemmas.{process_has_words, route_has_words}
use Rattle.smx_words.proofs.laws.one_value_each.Goals as goal

pub returns : goal.returns
returns c = record {
  driver = one_line driver_has_words;
  process = one_line process_has_words;
  command = one_line command_has_words;
  call = one_line call_has_words;
  entry = one_line entry_has_words;
  next = one_line next_has_words;
  descriptor = one_line descriptor_has_words;
  link = one_line link_has_words;
  bind = one_line bind_has_words;
  route = one_line route_has_words;
  message = one_line message_has_words;
  full = one_line full_has_words;
  hung = one_line hung_has_words;
}
