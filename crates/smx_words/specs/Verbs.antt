-- The first words of commands and of replies.
use Rattle.std.specs.Prelude.{ℕ, List, codes}
use Rattle.smx_words.specs.declared.reading.verb.ReplyVerb.{ReplyVerb}
use Rattle.smx_words.specs.declared.reading.verb.ReplyVerb.TheVariants as reply_verb
use Rattle.smx_words.specs.declared.reading.verb.Verb.{Verb}
use Rattle.smx_words.specs.declared.reading.verb.Verb.TheVariants as verb

-- the word that starts each command
abbrev pub verb_word : Verb → List ℕ
verb_word verb.Clone = codes "clone"
verb_word verb.Open = codes "open"
verb_word verb.Dup = codes "dup"
verb_word verb.Close = codes "close"
verb_word verb.Exit = codes "exit"
verb_word verb.Link = codes "link"
verb_word verb.Plink = codes "plink"
verb_word verb.Unlink = codes "unlink"
verb_word verb.Punlink = codes "punlink"
verb_word verb.Bind = codes "bind"
verb_word verb.Unbind = codes "unbind"
verb_word verb.Route = codes "route"
verb_word verb.Unroute = codes "unroute"
verb_word verb.Write = codes "write"
verb_word verb.Read = codes "read"
verb_word verb.Flush = codes "flush"
verb_word verb.Inject = codes "inject"
verb_word verb.Transmit = codes "transmit"
verb_word verb.Hangup = codes "hangup"

-- the word that starts each reply except `eof` and the faults
abbrev pub reply_verb_word : ReplyVerb → List ℕ
reply_verb_word reply_verb.Fd = codes "fd"
reply_verb_word reply_verb.Id = codes "id"
reply_verb_word reply_verb.Took = codes "took"
reply_verb_word reply_verb.Got = codes "got"
reply_verb_word reply_verb.Done = codes "done"
