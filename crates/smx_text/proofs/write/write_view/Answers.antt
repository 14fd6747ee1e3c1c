use Rattle.smx_text.proofs.Common.{◌∙◌, append_assoc, rules, next_words, text_of}
use Rattle.std.proofs.Common.{◌≡◌, ◌++◌, ◌∷◌, []}
use Rattle.std.specs.Prelude.{codes}
use Rattle.smx_text.proofs.WritingLemmas.{view_written, one_line_more}
use Rattle.smx_text.proofs.write.write_view.Goals as goal

pub returns-clause-written : goal.returns-clause-written
returns-clause-written c =
    let config : c.extend_from_slice.new.self.items ≡ c.args.out.now.items ++ codes "config\n" = search rules in
    let next : c.write_next.new.out.items ≡ c.extend_from_slice.new.self.items
    ++ text_of (next_words (c.args.view.now.next_id, c.args.view.now.next_serial) ∷ []) =
    c.in_ok-write_next.ensures.written ∙ one_line_more c.extend_from_slice.new.self.items
    (next_words (c.args.view.now.next_id, c.args.view.now.next_serial)) in
    let fds = rw c.as_slice.ensures at c.in_ok-write_lines.ensures.written in
    let links = rw c.as_slice-2.ensures at c.in_ok-write_lines-2.ensures.written in
    let binds = rw c.as_slice-3.ensures at c.in_ok-write_lines-3.ensures.written in
    let routes = rw c.as_slice-4.ensures at c.in_ok-write_lines-4.ensures.written in
    let msgs = rw c.as_slice-5.ensures at c.in_ok-write_lines-5.ensures.written in
    let fulls = rw c.as_slice-6.ensures at c.in_ok-write_lines-6.ensures.written in
    let hungs = rw c.as_slice-7.ensures at c.in_ok-write_lines-7.ensures.written in
    let lines =
    view_written c.args.view.now c.extend_from_slice.new.self.items _ _ _ _ _ _ _ _ next fds links binds routes msgs
    fulls hungs in
    rw config at lines ∙ append_assoc c.args.out.now.items (codes "config\n") _
