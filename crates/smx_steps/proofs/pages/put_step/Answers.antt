use Rattle.std.proofs.Common.{◌≡◌, ℕ, List, ◌++◌, append_assoc}
use Rattle.smx_steps.proofs.pages.put_step.Goals as goal

-- a text to which nine others were appended
put_nine : (old a b c d e f g h i t1 t2 t3 t4 t5 t6 t7 t8 t9 : List ℕ)
    → t1 ≡ old ++ a → t2 ≡ t1 ++ b → t3 ≡ t2 ++ c → t4 ≡ t3 ++ d → t5 ≡ t4 ++ e
    → t6 ≡ t5 ++ f → t7 ≡ t6 ++ g → t8 ≡ t7 ++ h → t9 ≡ t8 ++ i
    → t9 ≡ old ++ (a ++ (b ++ (c ++ (d ++ (e ++ (f ++ (g ++ (h ++ i))))))))
put_nine old a b c d e f g h i t1 t2 t3 t4 t5 t6 t7 t8 t9 e1 e2 e3 e4 e5 e6 e7 e8 e9 =
    rw (e9, e8, e7, e6, e5, e4, e3, e2, e1) (simp append_assoc)

pub returns : goal.returns
returns c =
    put_nine c.args.out.now.items _ _ _ _ _ _ _ _ _ c.put.new.out.items c.put-2.new.out.items c.put-3.new.out.items
    c.put-4.new.out.items c.put-5.new.out.items c.put_escaped.new.out.items c.put-6.new.out.items
    c.put-7.new.out.items c.put-8.new.out.items c.in_ok-put.ensures c.in_ok-put-2.ensures c.in_ok-put-3.ensures
    c.in_ok-put-4.ensures c.in_ok-put-5.ensures c.in_ok-put_escaped.ensures c.in_ok-put-6.ensures c.in_ok-put-7.ensures
    c.in_ok-put-8.ensures
