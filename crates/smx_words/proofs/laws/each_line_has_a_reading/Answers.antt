use Rattle.std.proofs.Common.{arith}
use Rattle.smx_types.specs.Versions.{is_hangup, is_of_hangup}
use Rattle.smx_words.proofs.DecidedCommandLemmas.{call_has_words, command_has_words, entry_has_words}
use Rattle.smx_words.proofs.DecidedLemmas.{reading}
use Rattle.smx_words.proofs.DecidedLineLemmas.{bind_has_words, descriptor_has_words, driver_has_words, full_has_words}
use Rattle.smx_words.proofs.DecidedLineLemmas.{hung_has_words, link_has_words, message_has_words, next_has_words}
use Rattle.smx_words.proofs.DecidedLineLemmas.{process_has_words, route_has_words}
use Rattle.smx_words.proofs.InVersionLemmas.{reading_in}
use Rattle.smx_words.proofs.PlainLemmas.{some_command}
use Rattle.smx_words.proofs.laws.each_line_has_a_reading.Goals as goal

pub returns : goal.returns
returns c = record {
  driver = reading driver_has_words (λ x. omega arith);
  process = reading process_has_words (λ x. omega arith);
  next = reading next_has_words (λ x. omega arith);
  descriptor = reading descriptor_has_words (λ x. omega arith);
  link = reading link_has_words (λ x. omega arith);
  bind = reading bind_has_words (λ x. omega arith);
  route = reading route_has_words (λ x. omega arith);
  message = reading message_has_words (λ x. omega arith);
  full = reading full_has_words (λ x. omega arith);
  hung = reading hung_has_words (λ x. omega arith);
  command = reading command_has_words some_command;
  entry = reading entry_has_words (λ x. omega arith);
  command_in = λ v line. reading_in command_has_words is_hangup v line some_command;
  call_in = λ v line. reading_in call_has_words (λ x. is_hangup x.1) v line (λ x. omega arith);
  entry_in = λ v line. reading_in entry_has_words is_of_hangup v line (λ x. omega arith);
}
