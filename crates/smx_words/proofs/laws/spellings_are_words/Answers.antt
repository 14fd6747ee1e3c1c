use Rattle.std.proofs.Common.{arith}
use Rattle.smx_words.proofs.DecidedCommandLemmas.{call_has_words, command_has_words, entry_has_words}
use Rattle.smx_words.proofs.DecidedLineLemmas.{bind_has_words, descriptor_has_words, driver_has_words, full_has_words}
use Rattle.smx_words.proofs.DecidedLineLemmas.{hung_has_words, link_has_words, message_has_words, next_has_words}
use Rattle.smx_words.proofs.DecidedLineLemmas.{process_has_words, route_has_words}
use Rattle.smx_words.proofs.PlainLemmas.{some_command}
use Rattle.smx_words.proofs.laws.spellings_are_words.Goals as goal

pub returns : goal.returns
returns c = record {
  driver = λ x fits. (driver_has_words.are_words x fits, omega arith);
  process = λ x fits. (process_has_words.are_words x fits, omega arith);
  command = λ x fits. (command_has_words.are_words x fits, some_command x);
  call = λ x fits. (call_has_words.are_words x fits, omega arith);
  entry = λ x fits. (entry_has_words.are_words x fits, omega arith);
  next = λ x fits. (next_has_words.are_words x fits, omega arith);
  descriptor = λ x fits. (descriptor_has_words.are_words x fits, omega arith);
  link = λ x fits. (link_has_words.are_words x fits, omega arith);
  bind = λ x fits. (bind_has_words.are_words x fits, omega arith);
  route = λ x fits. (route_has_words.are_words x fits, omega arith);
  message = λ x fits. (message_has_words.are_words x fits, omega arith);
  full = λ x fits. (full_has_words.are_words x fits, omega arith);
  hung = λ x fits. (hung_has_words.are_words x fits, omega arith);
}
