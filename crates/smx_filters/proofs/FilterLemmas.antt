-- A filter that fails on the bytes that it read.
use Rattle.smx_filters.proofs.Common.{◌≡◌, ◌≢◌, ℕ, List, Option, Some, None, Bool, Result, Ok, Err, Vec, sym, subst}
use Rattle.smx_filters.proofs.Common.{rules, arith, inl, IsErrAnd, Global, TextFault}
use Rattle.smx_filters.proofs.Common.{RunFault, MainFault, Refused, Text, TooLong}
use Rattle.smx_filters.proofs.Common.{ReadFailed, WriteFailed, Filter, Answers, FiltersText, IsFaultOf, IsInput}
use Rattle.std.specs.Prelude.{IsErrOf}
use Rattle.std.specs.Io.KnownBytes.{Keeps}
use Rattle.smx_filters.specs.Filters.{RefusesFor}
use Rattle.smx_run.specs.Input.{IsWhole}

-- known bytes that don't change are kept
kept : (known : Option (List ℕ)) → Keeps known known
kept None = search rules
kept (Some bytes) = search rules

-- an error has only one fault
fault_of : {T : Type 0} {e f : MainFault} → IsErrOf {T = T} (Err e) f → e ≡ f
fault_of is = cc

module _ {V K T : Type 0} (filter : Filter V K T) (had left : Option (List ℕ)) (ended : Bool) (failures : ℕ)
    (held : Option (List ℕ)) (flushed : Bool) (written : ℕ) (v : Vec ℕ Global) (read : List ℕ)
    (h : IsInput had left ended failures (Ok v) read) (fine : written ≡ 0) where
  -- the fields that all such faults have in common
  said : (e : MainFault) → e ≢ TooLong → e ≢ ReadFailed → e ≢ WriteFailed
      → ((f : TextFault) → e ≡ Text f → IsFaultOf filter read f)
      → ((f : RunFault) → e ≡ Refused f → RefusesFor filter read f)
      → FiltersText filter had left ended failures held held flushed written (Err e)
  said e not_long not_read not_written text refused = record {
    read = read;
    consumed = h.consumed;
    few = h.few;
    done = tt;
    text = λ f is. (whole, text f is);
    refused = λ f is. inl (whole, refused f is);
    too_long =
        (λ is. absurd (not_long (fault_of is)), λ long. let over : ok ≡ Err TooLong = h.too_long.1 long in absurd cc);
    read_failed = (
      λ is. absurd (not_read (fault_of is)),
      λ failed. let broken : ok ≡ Err ReadFailed = h.read_failed.1 failed in absurd cc,
    );
    write_failed = (λ is. absurd (not_written (fault_of is)), λ failed. absurd (omega arith));
    cut_short = λ is. absurd (not_written is);
    unwritten = λ differs. kept held;
  } where
    whole : IsWhole had ended read
    whole = h.whole

    ok : Result (Vec ℕ Global) MainFault
    ok = Ok v

  -- if the filter fails on what was read, that is the result
  pub at_answer : (e : MainFault) → Answers filter v.items (Err e)
      → FiltersText filter had left ended failures held held flushed written (Err e)
  at_answer (Text f) a = said (Text f) (λ is. cc) (λ is. cc) (λ is. cc) (λ g is. let same : f ≡ g = cc in
      subst (λ (x : TextFault). IsFaultOf filter read x) same
      (subst (λ (bytes : List ℕ). IsFaultOf filter bytes f) h.answered a)) (λ g is. absurd cc)
  at_answer (Refused f) a = said (Refused f) (λ is. cc) (λ is. cc) (λ is. cc) (λ g is. absurd cc)
      (λ g is. let same : f ≡ g = cc in
      subst (λ (x : RunFault). RefusesFor filter read x) same
      (subst (λ (bytes : List ℕ). RefusesFor filter bytes f) h.answered a))
  at_answer e a = absurd a

  -- these bytes are all that the result says to be read
  pub are_read : (e : MainFault) (a : Answers filter v.items (Err e)) → v.items ≡ (at_answer e a).read
  unfolding at_answer said
  are_read (Text f) a = h.answered
  are_read (Refused f) a = h.answered
  are_read e a = absurd a

  -- a `?` passes the fault on unchanged
  pub passed_on : (e : MainFault) (answer : Result T MainFault) → IsErrAnd answer (λ f. f ≡ e)
      → Answers filter v.items (Err e) → FiltersText filter had left ended failures held held flushed written answer
  passed_on e (Ok x) is a = absurd is
  passed_on e (Err f) is a = subst
      (λ (x : MainFault). FiltersText filter had left ended failures held held flushed written (Err x)) (sym is)
      (at_answer e a)
