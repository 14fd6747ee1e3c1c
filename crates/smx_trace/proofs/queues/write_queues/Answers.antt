use Rattle.smx_trace.proofs.Common.{rules, ap, append_assoc, sym, append-nil, ◌∙◌, MessageLine, LINE_FEED, line_of}
use Rattle.smx_trace.proofs.Common.{queues_left}
use Rattle.std.proofs.Common.{◌≡◌, ◌∷◌, [], ◌++◌}
use Rattle.smx_words.specs.Spelling.{message_words}
use Rattle.std.proofs.lemmas.List.{nil_from_length}
use Rattle.smx_trace.proofs.QueueLemmas.{all_left, all_written, left_step, none_left, one_more_queued}
use Rattle.smx_trace.proofs.queues.write_queues.Goals as goal
use Rattle.smx_trace.proofs.queues.write_queues.Goals.{then-with_messages+in_ok-write_line, else-with_messages}

pub lines-init : goal.lines-init
lines-init c =
    all_left c.args.config.now.drivers c.args.config.now.configuration
    (queues_left c.args.with_messages c.args.config.now.drivers c.args.config.now.configuration) c.args.out.now.items
    c.args.lines.now c.requires.kept c.requires.lines

pub lines-preserved : goal.lines-preserved
lines-preserved c =
    let drivers = c.args.config.now.drivers in
    let parts : c.lines.rest.now ≡ c.in-Some.line.now ∷ c.in-Some.more.now = search rules in
    one_more_queued c.lines.rest.now c.in-Some.more.now c.in-Some.line.now c.write_wait_of_last.new.out.items parts
    c.lines.invariant
    (λ h hs one others q. left_step c.args.with_messages drivers c.args.config.now.configuration h hs
    c.lines.out.items c.if-with_messages.out.items c.write_wait_of_last.new.out.items
    (elim c.if-with_messages.branch [
      | then-with_messages+in_ok-write_line w ↦ rw (w.out-is, w.if-with_messages.true) (
          w.in_ok-write_line.ensures.written ∙ append_assoc c.lines.out.items _ (LINE_FEED ∷ [])
          ∙ ap (λ (x : MessageLine). c.lines.out.items ++ (line_of (message_words x) ++ LINE_FEED ∷ [])) one)
      | else-with_messages w ↦ rw (w.out-is, w.if-with_messages.false) (sym (append-nil c.lines.out.items))
    ])
    (c.in_ok-write_wait_of_last.ensures h hs one others q))

pub returns : goal.returns
returns c = all_written c.lines.rest.now (nil_from_length c.lines.rest.now c.in_default.ensures.cases)
    (none_left c.args.with_messages c.args.config.now.drivers c.args.config.now.configuration) c.lines.invariant
