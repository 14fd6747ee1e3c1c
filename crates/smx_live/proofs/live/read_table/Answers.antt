use Rattle.smx_live.proofs.Common.{◌≡◌, ◌+◌, ◌++◌, ◌∙◌, ℕ, true, List, [], ◌∷◌, ap, arith, inl, inr, length, refl}
use Rattle.smx_live.proofs.Common.{sym, take, Consumes-trans, lines_text, begins_driver}
use Rattle.std.proofs.Common.{◌⊎◌}
use Rattle.std.proofs.KnownBytes.{Consumes-nil}
use Rattle.std.proofs.lemmas.List.{append-nil}
use Rattle.std.proofs.lemmas.Result.{err_from_is_err_and}
use Rattle.smx_live.proofs.InboxLemmas.{moved, unmoved}
use Rattle.smx_live.proofs.TableLemmas.{fails_with, has_table, one_line_more, over_at_a_line, text_more}
use Rattle.smx_live.proofs.live.read_table.Goals as goal

pub lines-init : goal.lines-init
lines-init g c =
    let held = c.args.inbox.now.held.items in
    record {
      so_far = (
        [],
        Consumes-nil (g.F.Feed.remaining c.args.feed.now),
        append-nil held ∙ sym (ap (λ (t : List ℕ). t ++ held) c.new-table.ensures.items),
      );
      lines = ([], c.new-table.ensures.items, record { each = tt; drivers = tt; last = inl refl });
      end = c.requires.end;
      fine = c.requires.fine_so_far;
    }

pub returns-in_default : goal.returns-in_default
returns-in_default g c =
    let (read, consumed, parts) = c.lines.invariant.so_far in
    let (lines, text, were) = c.lines.invariant.lines in
    let (piece, p) = c.in_ok-n.ensures in
    let held = c.next_line.new.self.held.items in
    let came = rw c.in_default.is at p.came in (
      read ++ piece,
      record {
        consumed = Consumes-trans _ _ _ read piece consumed p.consumed;
        came = has_table c.lines.table.items lines held text were _ came.found.0 came.found.1
            (record { held = c.with_cut_line.new.held; ended = c.next_line.new.self.ended })
            (unmoved c.args.inbox.now.held.items read piece c.lines.table.items c.lines.inbox.held.items held parts
            came.held)
            (omega (arith, c.lines-test.true, c.len.ensures, c.lines.table.ok.0)) came.end came.fine
            c.with_cut_line.result c.with_cut_line.ensures;
      },
    )

pub returns-in_err-n : goal.returns-in_err-n
returns-in_err-n g c =
    let (read, consumed, parts) = c.lines.invariant.so_far in
    let (lines, text, were) = c.lines.invariant.lines in
    let (piece, p) = c.in_err-n.ensures in
    let (fault, is, of) = err_from_is_err_and c.from_residual.result c.from_residual.ensures.1 in
    rw (is, of) (
      read ++ piece,
      record {
        consumed = Consumes-trans _ _ _ read piece consumed p.consumed;
        came = fails_with c.lines.table.items lines (c.lines.inbox.held.items ++ piece) text were _
            (unmoved c.args.inbox.now.held.items read piece c.lines.table.items c.lines.inbox.held.items _ parts refl)
            c.in_err-n.field-0.0 p.came;
      },
    )

pub returns-then-not-is_of_table : goal.returns-then-not-is_of_table
returns-then-not-is_of_table g c =
    let (read, consumed, parts) = c.lines.invariant.so_far in
    let (lines, text, were) = c.lines.invariant.lines in
    let (piece, p) = c.in_ok-n.ensures in
    let came = rw c.in-Some.is at p.came in
    let held = c.next_line.new.self.held.items in
    let (some, other) = c.if-not-is_of_table.ensures in (
      read ++ piece,
      record {
        consumed = Consumes-trans _ _ _ read piece consumed p.consumed;
        came = record {
          parts = unmoved c.args.inbox.now.held.items read piece c.lines.table.items c.lines.inbox.held.items held parts
              came.held;
          over = over_at_a_line c.lines.table.items lines held text were _ c.in-Some.n came.found.0 came.found.1
              (λ none. some (omega (arith, c.len-in-lines.ensures, c.lines.table.ok.0, none)))
              (rw c.deref.ensures.value at other);
          end = came.end;
          fine = came.fine;
          fits = omega (arith, c.lines-test.true, c.len.ensures, c.lines.table.ok.0);
        };
      },
    )

pub returns-in_err-extend_from_slice : goal.returns-in_err-extend_from_slice
returns-in_err-extend_from_slice g c =
    let (read, consumed, parts) = c.lines.invariant.so_far in
    let (piece, p) = c.in_ok-n.ensures in
    let came = rw c.in-Some.is at p.came in
    let (fault, is, of) = err_from_is_err_and c.from_residual-in_err-extend_from_slice.result
    c.from_residual-in_err-extend_from_slice.ensures.1 in
    rw (is, of) (
      read ++ piece,
      record { consumed = Consumes-trans _ _ _ read piece consumed p.consumed; came = (came.fine, refl) },
    )

pub lines-preserved : goal.lines-preserved
lines-preserved g c =
    let (read, consumed, parts) = c.lines.invariant.so_far in
    let (lines, text, were) = c.lines.invariant.lines in
    let (piece, p) = c.in_ok-n.ensures in
    let came = rw c.in-Some.is at p.came in
    let n = c.in-Some.n in
    let held = c.next_line.new.self.held.items in
    let table = c.lines.table.items in
    let grew : c.extend_from_slice.new.self.items ≡ table ++ take (n + 1) held =
    rw c.deref-in-lines.ensures.value at c.in_ok-extend_from_slice.ensures.items in
    let why : (length (lines_text lines) ≡ 0) ⊎ (begins_driver (take n held) ≡ true) =
    elim c.if-not-is_of_table.ensures [
      | inl none ↦ inl (omega (
        arith,
        none,
        c.len-in-lines.ensures,
        c.lines.table.ok.0,
        ap (λ (t : List ℕ). length t) text,
      ))
      | inr is ↦ inr (rw c.deref.ensures.value at is)
    ] in
    record {
      so_far = (
        read ++ piece,
        Consumes-trans _ _ _ read piece consumed p.consumed,
        rw (grew, c.drop_line.ensures.held)
            (moved c.args.inbox.now.held.items read piece table c.lines.inbox.held.items held (n + 1) parts came.held),
      );
      lines = (
        lines ++ take n held ∷ [],
        grew ∙ (rw text (text_more lines n held came.found.0)),
        one_line_more lines (take n held) were came.found.0.one why,
      );
      end = came.end ∙ sym c.drop_line.ensures.end;
      fine = came.fine;
    }
