-- Sweeping a swept configuration changes nothing.
use Rattle.smx_model.proofs.Common.{arith, ◌≡◌, Bool, true, false, ◌&&◌, ◌||◌, not, eqb, List, [], filter, refl, ap}
use Rattle.smx_model.proofs.Common.{◌∙◌, list_any, list_all, DriverSpec, Link, Place, Route, Side, Configuration}
use Rattle.smx_model.proofs.Common.{QueuedMessage, same_side, after_sweep, without_links, without_queues_at}
use Rattle.smx_model.proofs.Common.{without_dead_streams, is_read_below, IsSwept}
use Rattle.smx_types.specs.declared.stream.Side.TheVariants as side
use Rattle.smx_model.proofs.TestLemmas.{keep_all, all_same, all_true, none_kept}

-- two tests don't both fail exactly if one of them passes
not_gone : (a b : Bool) → not (not a && not b) ≡ (a || b)
not_gone a b = grind arith

-- a test that is negated twice is unchanged
not_not : (b : Bool) → not (not b) ≡ b
not_not b = grind arith

-- the configuration with these lists
abbrev with_lists : Configuration → List Link → List Route → List QueuedMessage → List Place → Configuration
with_lists c links routes flow fulls = record c { links = links; routes = routes; flow = flow; fulls = fulls }

-- if no link is to be removed, the removal of links changes nothing
removed_none : (c : Configuration) (goes : Link → Bool) → list_all (λ l. not (goes l)) c.links ≡ true
    → without_links c goes ≡ c
removed_none c goes h = by (filter goes c.links) (none_kept goes c.links h) where
  here : Configuration → List Link → Configuration
  here c gone = without_queues_at
      (record c {
        links = filter (λ l. not (goes l)) c.links;
        routes = filter (λ r. not (list_any (λ l. eqb l.id r.id) gone)) c.routes;
      }) (is_read_below gone)

  off : (s : Side) → not (same_side s side.Read && false) ≡ true
  off side.Write = refl
  off side.Read = refl

  by : (gone : List Link) → gone ≡ [] → here c gone ≡ c
  by gone e = ap (here c) e ∙
      (ap (λ (x : List Link). with_lists c x (filter (λ r. true) c.routes)
      (filter (λ h. not (is_read_below [] h.place)) c.flow) (filter (λ p. not (is_read_below [] p)) c.fulls))
      (keep_all (λ l. not (goes l)) c.links h)
      ∙ (ap (λ (x : List Route). with_lists c c.links x (filter (λ h. not (is_read_below [] h.place)) c.flow)
      (filter (λ p. not (is_read_below [] p)) c.fulls))
      (keep_all (λ r. true) c.routes (all_true _ c.routes (λ r. refl)))
      ∙ (ap (λ (x : List QueuedMessage). with_lists c c.links c.routes x
      (filter (λ p. not (is_read_below [] p)) c.fulls))
      (keep_all _ c.flow (all_true (λ h. not (is_read_below [] h.place)) c.flow (λ h. off h.place.side)))
      ∙ ap (with_lists c c.links c.routes c.flow)
      (keep_all _ c.fulls (all_true (λ p. not (is_read_below [] p)) c.fulls (λ p. off p.side))))))

-- a swept configuration has nothing to remove of streams that don't exist
dead_none : (drivers : List DriverSpec) (c : Configuration) → IsSwept drivers c → without_dead_streams drivers c ≡ c
dead_none drivers c h = grind (arith, keep_all, all_same, not_not)

-- a sweep of a swept configuration changes nothing
pub swept_idle : (drivers : List DriverSpec) (c : Configuration) → IsSwept drivers c → after_sweep drivers c ≡ c
swept_idle drivers c h = grind (arith, removed_none, all_same, not_gone, dead_none)
