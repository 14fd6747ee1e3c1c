-- A filter whose answer says only that it is done, for an input that was read completely: its text is malformed, or
-- what the filter gives is written.
use Rattle.smx_filters.proofs.Common.{◌≡◌, ℕ, Bool, true, List, Option, Vec, Result, Ok, Err, sym, ap, subst, ◌∙◌}
use Rattle.smx_filters.proofs.Common.{arith, IfErr, IsErrAnd, Global, Appends, TextFault, Answers, Filter}
use Rattle.smx_filters.proofs.Common.{FiltersText, GivesFor, IsFaultOf, IsInput, MainFault, Refused, Text, TooLong}
use Rattle.smx_filters.proofs.Common.{ReadFailed, WriteFailed}
use Rattle.std.specs.Prelude.{OnErr, OnOk}
use Rattle.smx_run.specs.Input.{IsWhole}
use Rattle.smx_run.specs.Devices.{AppendsBeginning}
use Rattle.smx_filters.specs.RunText.{items_of}

-- if the text is malformed, the answer is its fault
pub text_refused : {V K : Type 0} (filter : Filter V K (Unit {0})) (bytes input : List ℕ) → bytes ≡ input
    → (f : TextFault) (answer : Result (Vec ℕ Global) MainFault) → IsErrAnd answer (λ e. e ≡ Text f)
    → IsFaultOf filter bytes f → Answers filter input (items_of answer)
text_refused filter bytes input same f (Ok v) is a = absurd is
text_refused filter bytes input same f (Err e) is a =
    subst (λ (x : MainFault). Answers filter input (Err x)) (sym is)
    (subst (λ (given : List ℕ). IsFaultOf filter given f) same a)

module _ {V K : Type 0} (f : Filter V K (Unit {0})) (had left : Option (List ℕ)) (ended : Bool) (failures : ℕ)
    (before after : Option (List ℕ)) (flushed : Bool) (written : ℕ) (v : Vec ℕ Global)
    (read : List ℕ) (h : IsInput had left ended failures (Ok v) read) (bytes : List ℕ)
    (given : GivesFor f v.items tt bytes) where
  -- the input was read completely
  whole : IsWhole had ended read
  whole = h.whole

  -- what was read, if reading succeeded
  abbrev ok : Result (Vec ℕ Global) MainFault
  ok = Ok v

  -- what is given for the vector is given for the bytes that were read
  gives_read : GivesFor f read tt bytes
  gives_read = subst (λ (input : List ℕ). GivesFor f input tt bytes) h.answered given

  -- what was given was written, or writing failed
  pub written_out : (answer : Result (Unit {0}) MainFault) → OnOk answer (Appends before after bytes)
      → OnOk answer (flushed ≡ true) → OnOk answer (written ≡ 0)
      → OnErr answer (AppendsBeginning before after bytes) → IfErr answer (λ fault. fault ≡ WriteFailed)
      → OnErr answer (written ≡ 1)
      → FiltersText f had left ended failures before after flushed written answer
  written_out (Ok done) appended out fine beginning fault failed = record {
    read = read;
    consumed = h.consumed;
    few = h.few;
    done = (whole, out, bytes, gives_read, appended);
    text = tt;
    refused = tt;
    too_long = (λ is. absurd cc, λ long. let over : ok ≡ Err TooLong = h.too_long.1 long in absurd cc);
    read_failed = (λ is. absurd cc, λ broken. let over : ok ≡ Err ReadFailed = h.read_failed.1 broken in absurd cc);
    write_failed = (λ is. absurd cc, λ broken. absurd (omega (arith, fine, broken)));
    cut_short = tt;
    unwritten = tt;
  }
  written_out (Err e) appended out fine beginning fault failed = record {
    read = read;
    consumed = h.consumed;
    few = h.few;
    done = tt;
    text = λ g is. let other : WriteFailed ≡ Text g = sym fault ∙ is in absurd cc;
    refused = λ g is. let other : WriteFailed ≡ Refused g = sym fault ∙ is in absurd cc;
    too_long = (
      λ is. let same : Err e ≡ Err TooLong = is in let other : WriteFailed ≡ TooLong = sym fault ∙ cc in absurd cc,
      λ long. let over : ok ≡ Err TooLong = h.too_long.1 long in absurd cc,
    );
    read_failed = (
      λ is. let same : Err e ≡ Err ReadFailed = is in let other : WriteFailed ≡ ReadFailed = sym fault ∙ cc in
          absurd cc,
      λ broken. let over : ok ≡ Err ReadFailed = h.read_failed.1 broken in absurd cc,
    );
    write_failed = (λ is. failed, λ broken. ap Err fault);
    cut_short = λ is. (whole, tt, bytes, gives_read, beginning);
    unwritten = λ differs. absurd (differs fault);
  }
