-- Each kind of value has words of its own.
use Rattle.std.proofs.Common.{refl, rules}
use Rattle.std.specs.Prelude.{codes}
use Rattle.smx_words.specs.Spellable.{FitsBinding, FitsDescriptor, FitsDriver, FitsFull, FitsLink, FitsHung}
use Rattle.smx_words.specs.Spellable.{FitsMessage, FitsNext, FitsNumber, FitsRoute}
use Rattle.smx_words.specs.Spelling.{bind_words, descriptor_words, driver_words, full_words, link_words, hung_words}
use Rattle.smx_words.specs.Spelling.{message_words, next_words, process_words, route_words}
use Rattle.smx_words.proofs.DecidedLemmas.{HasWords, after, first, last, via}
use Rattle.smx_words.proofs.DecidedWordLemmas.{bytes, driver_kind, link_kind, name, number, process, stream_side}

-- the start of each process has words of its own
unfoldable pub process_has_words : HasWords FitsNumber process_words
process_has_words = after (codes "process") (search rules) (last number)

-- each next id and serial have words of their own
pub next_has_words : HasWords FitsNext next_words
next_has_words = after (codes "next") (search rules) (first number (last number))

-- each driver has words of its own
pub driver_has_words : HasWords FitsDriver driver_words
driver_has_words =
    via
    (λ p. record { name = p.0; kind = p.1.0; minors = p.1.1.0; high = p.1.1.1.0; low = p.1.1.1.1.0; max = p.1.1.1.1.1 })
    (after (codes "driver") (search rules)
    (first name (first driver_kind (first number (first number (first number (last number)))))))
    (λ d. (d.name, (d.kind, (d.minors, (d.high, (d.low, d.max))))))
    (λ p h. search rules) (λ d h. search rules) (λ d. refl)

-- each open descriptor has words of its own
pub descriptor_has_words : HasWords FitsDescriptor descriptor_words
descriptor_has_words = via (λ p. record { process = p.0; fd = p.1.0; driver = p.1.1.0; minor = p.1.1.1 })
    (after (codes "fd") (search rules) (first process (first number (first name (last number)))))
    (λ d. (d.process, (d.fd, (d.driver, d.minor)))) (λ p h. search rules) (λ d h. search rules) (λ d. refl)

-- each link has words of its own
pub link_has_words : HasWords FitsLink link_words
link_has_words =
    via (λ p. record {
      id = p.0;
      ctl_driver = p.1.0;
      ctl_minor = p.1.1.0;
      lower_driver = p.1.1.1.0;
      lower_minor = p.1.1.1.1.0;
      kind = p.1.1.1.1.1;
    })
    (after (codes "link") (search rules)
    (first number (first name (first number (first name (first number (last link_kind)))))))
    (λ l. (l.id, (l.ctl_driver, (l.ctl_minor, (l.lower_driver, (l.lower_minor, l.kind))))))
    (λ p h. search rules) (λ l h. search rules) (λ l. refl)

-- each binding has words of its own
pub bind_has_words : HasWords FitsBinding bind_words
bind_has_words = via (λ p. record { driver = p.0; addr = p.1.0; minor = p.1.1 })
    (after (codes "bind") (search rules) (first name (first number (last number))))
    (λ b. (b.driver, (b.addr, b.minor))) (λ p h. search rules) (λ b h. search rules) (λ b. refl)

-- each route has words of its own
pub route_has_words : HasWords FitsRoute route_words
route_has_words = via (λ p. record { driver = p.0; addr = p.1.0; id = p.1.1 })
    (after (codes "route") (search rules) (first name (first number (last number))))
    (λ r. (r.driver, (r.addr, r.id))) (λ p h. search rules) (λ r h. search rules) (λ r. refl)

-- each queued message has words of its own
pub message_has_words : HasWords FitsMessage message_words
message_has_words =
    via (λ p. record {
      driver = p.0;
      minor = p.1.0;
      side = p.1.1.0;
      message = record { serial = p.1.1.1.0; addr = p.1.1.1.1.0; bytes = p.1.1.1.1.1 };
    })
    (after (codes "msg") (search rules)
    (first name (first number (first stream_side (first number (first number (last bytes)))))))
    (λ m. (m.driver, (m.minor, (m.side, (m.message.serial, (m.message.addr, m.message.bytes))))))
    (λ p h. search rules) (λ m h. search rules) (λ m. refl)

-- each hung-up stream has words of its own
pub hung_has_words : HasWords FitsHung hung_words
hung_has_words = via (λ p. record { driver = p.0; minor = p.1 })
    (after (codes "hung") (search rules) (first name (last number)))
    (λ s. (s.driver, s.minor)) (λ p h. search rules) (λ s h. search rules) (λ s. refl)

-- each full place has words of its own
pub full_has_words : HasWords FitsFull full_words
full_has_words = via (λ p. record { driver = p.0; minor = p.1.0; side = p.1.1 })
    (after (codes "full") (search rules) (first name (first number (last stream_side))))
    (λ f. (f.driver, (f.minor, f.side))) (λ p h. search rules) (λ f h. search rules) (λ f. refl)
