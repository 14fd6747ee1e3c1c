-- The texts that are kept.
use Rattle.smx_filters.proofs.Common.{◌≡◌, ℕ, Bool, true, false, List, Option, None, Result, Ok, Err, Vec, sym, ap}
use Rattle.smx_filters.proofs.Common.{subst, ◌∙◌, Global, Appends, IsErrAnd, Answers, Filter, GivesFor, IsInput}
use Rattle.smx_filters.proofs.Common.{MainFault, WriteFailed}
use Rattle.smx_run.specs.Refusals.{IsKept, is_in_text}
use Rattle.smx_filters.specs.ExplainText.{KeepsText}
use Rattle.smx_run.specs.Devices.{AppendsBeginning}
use Rattle.smx_run.specs.declared.main_fault.Refusal.{Refusal}
use Rattle.smx_filters.proofs.FilterLemmas.{are_read, at_answer}
use Rattle.smx_filters.proofs.WritingFilterLemmas.{written_out}

module _ {V K T : Type 0} (f : Filter V K T) (had left : Option (List ℕ)) (ended : Bool) (failures : ℕ)
    (held : Option (List ℕ)) (flushed : Bool) (written : ℕ) (v : Vec ℕ Global) (read : List ℕ)
    (h : IsInput had left ended failures (Ok v) read) (fine : written ≡ 0) where
  -- the filter fails with this fault on what was read, which is kept if the fault is in it
  pub kept_so : (r : Refusal) (e : MainFault) → r.fault ≡ e → Answers f v.items (Err e)
      → (is_in_text e ≡ true → IsKept r.text v.items) → (is_in_text e ≡ false → r.text ≡ None)
      → KeepsText f had left ended failures held held flushed written (Err r)
  kept_so r e is a keeps gives_up =
      let said : Answers f v.items (Err r.fault) = subst (λ (x : MainFault). Answers f v.items (Err x)) (sym is) a in
      let same = are_read f had left ended failures held flushed written v read h fine r.fault said in
      record {
        filtered = at_answer f had left ended failures held flushed written v read h fine r.fault said;
        kept = λ so. subst (IsKept r.text) same (keeps (sym (ap is_in_text is) ∙ so));
        given_up = λ so. gives_up (sym (ap is_in_text is) ∙ so);
      }

module _ {V K : Type 0} (f : Filter V K (Unit {0})) (had left : Option (List ℕ)) (ended : Bool) (failures : ℕ)
    (before after : Option (List ℕ)) (flushed : Bool) (written : ℕ) (v : Vec ℕ Global)
    (read : List ℕ) (h : IsInput had left ended failures (Ok v) read) (bytes : List ℕ)
    (given : GivesFor f v.items tt bytes) where
  -- what the filter gives was written
  pub kept_when_written : (done : Unit {0}) → Appends before after bytes → flushed ≡ true → written ≡ 0
      → KeepsText f had left ended failures before after flushed written (Ok done)
  kept_when_written done appended out fine = record {
    filtered = written_out f had left ended failures before after flushed written v read h bytes given (Ok done)
        appended out fine tt tt tt;
    kept = tt;
    given_up = tt;
  }

  -- writing failed, so nothing is kept
  pub kept_when_cut_short : (e : MainFault) (answer : Result (Unit {0}) Refusal)
      → IsErrAnd answer (λ r. r ≡ record { fault = e; text = None }) → AppendsBeginning before after bytes
      → e ≡ WriteFailed → written ≡ 1
      → KeepsText f had left ended failures before after flushed written answer
  kept_when_cut_short e (Ok done) is beginning fault failed = absurd is
  kept_when_cut_short e (Err r) is beginning fault failed =
      let same : r.fault ≡ WriteFailed = ap (λ (x : Refusal). x.fault) is ∙ fault in
      record {
        filtered = written_out f had left ended failures before after flushed written v read h bytes given
            (Err r.fault) tt tt tt beginning same failed;
        kept = λ shown. let no : false ≡ true = sym (ap is_in_text same) ∙ shown in absurd cc;
        given_up = λ unseen. ap (λ (x : Refusal). x.text) is;
      }
