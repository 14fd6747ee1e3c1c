use Rattle.smx_live.proofs.Common.{◌++◌, ◌∙◌, ℕ, List, ap, subst, sym, FailsToRead, IsEndlessTable, IsUnfinished}
use Rattle.std.proofs.lemmas.Result.{err_from_is_err_and}
use Rattle.smx_live.proofs.LiveLemmas.{begun}
use Rattle.smx_live.proofs.LiveTextLemmas.{answered_all, no_opening, no_session, no_table}
use Rattle.smx_live.proofs.live.live_text.Goals as goal

pub returns-in_err-table : goal.returns-in_err-table
returns-in_err-table g c =
    let (read, t) = c.in_err-table.ensures in
    let (refusal, is, of) = err_from_is_err_and c.from_residual.result c.from_residual.ensures.1 in
    rw (is, of) (no_table read t.consumed c.in_err-table.field-0.0 c.requires.sunk
    (subst (λ (h : List ℕ). FailsToRead (IsEndlessTable (h ++ read)) (IsUnfinished (h ++ read))
    (g.F.Feed.failures c.read_table.new.feed) c.in_err-table.field-0.0) c.new-inbox.ensures.held t.came))

pub returns-in_err-talk : goal.returns-in_err-talk
returns-in_err-talk g c =
    let (read, t) = c.in_ok-table.ensures in
    let (refusal, is, of) = err_from_is_err_and c.from_residual-in_err-talk.result
    c.from_residual-in_err-talk.ensures.1 in
    let parts = ap (λ (h : List ℕ). h ++ read) (sym c.new-inbox.ensures.held) ∙ t.came.parts in
    rw (is, of) (no_session read t.consumed c.in_ok-table.table.items c.read_table.new.inbox.held.items parts
    t.came.over t.came.fits t.came.fine c.in_err-talk.field-0.0.fault c.requires.sunk c.in_err-talk.ensures)

pub returns-in_err-open : goal.returns-in_err-open
returns-in_err-open g c =
    let (read, t) = c.in_ok-table.ensures in
    let (refusal, is, of) = err_from_is_err_and c.from_residual-in_err-open.result
    c.from_residual-in_err-open.ensures.1 in
    let parts = ap (λ (h : List ℕ). h ++ read) (sym c.new-inbox.ensures.held) ∙ t.came.parts in
    rw (is, of) (no_opening read t.consumed c.in_ok-table.table.items c.read_table.new.inbox.held.items parts
    t.came.over t.came.fits t.came.fine c.in_ok-talk.talk.session c.in_err-open.field-0.0 c.in_ok-talk.ensures.0
    c.in_err-open.ensures)

pub returns-in_err-converse : goal.returns-in_err-converse
returns-in_err-converse g c =
    let (read, t) = c.in_ok-table.ensures in
    let begun_so = c.in_ok-talk.ensures in
    let (fine, flushed, opening, appended, begins) = c.in_ok-open.ensures in
    let (refusal, is, of) = err_from_is_err_and c.from_residual-in_err-converse.result
    c.from_residual-in_err-converse.ensures.1 in
    let parts = ap (λ (h : List ℕ). h ++ read) (sym c.new-inbox.ensures.held) ∙ t.came.parts in
    rw (is, of) (answered_all t.consumed appended (c.in_err-converse.ensures read opening
    (rw (begun_so.1, ← t.came.end) (begun parts t.came.over t.came.fits begun_so.0 begins))))

pub returns : goal.returns
returns g c =
    let (read, t) = c.in_ok-table.ensures in
    let begun_so = c.in_ok-talk.ensures in
    let (fine, flushed, opening, appended, begins) = c.in_ok-open.ensures in
    let parts = ap (λ (h : List ℕ). h ++ read) (sym c.new-inbox.ensures.held) ∙ t.came.parts in
    answered_all t.consumed appended (c.in_ok-converse.ensures read opening
    (rw (begun_so.1, ← t.came.end) (begun parts t.came.over t.came.fits begun_so.0 begins)))
