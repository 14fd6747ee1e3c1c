use Rattle.std.proofs.Common.{rules, tests}
use Rattle.std.proofs.lemmas.Iterator.{YieldsList-from_map, YieldsList-from_slice, items_from_collect}
use Rattle.std.proofs.lemmas.Iterator.Consumers.{YieldsList-at, YieldsList-from_chain}
use Rattle.smx_draw.specs.declared.parts.Part.TheVariants as part
use Rattle.smx_draw.proofs.parts.parts_of.Goals as goal

pub returns : goal.returns
returns c = let h = items_from_collect c.collect.result c.collect.ensures.ran (YieldsList-from_chain
    (YieldsList-at c.chain-parts.ensures.first (YieldsList-from_chain (YieldsList-at c.chain-6.ensures.first
    (YieldsList-from_chain (YieldsList-at c.chain-5.ensures.first (YieldsList-from_chain (YieldsList-at
    c.chain-4.ensures.first (YieldsList-from_chain (YieldsList-at c.chain-3.ensures.first (YieldsList-from_chain
    (YieldsList-at c.chain-2.ensures.first (YieldsList-from_chain (YieldsList-at c.chain.ensures.first
    (YieldsList-from_map _ part.Driver (YieldsList-at c.map.ensures.source (YieldsList-from_slice
    c.args.drivers.now cc)) c.map.ensures.closure (λ x r q k. search (rules, tests))))
    (YieldsList-at c.chain.ensures.second (YieldsList-from_map _ part.Link (YieldsList-at c.map-2.ensures.source
    (YieldsList-from_slice c.args.view.now.links cc)) c.map-2.ensures.closure (λ x r q k. search (rules, tests))))
    (cc) cc))
    (YieldsList-at c.chain-2.ensures.second (YieldsList-from_map _ part.Hung (YieldsList-at c.map-3.ensures.source
    (YieldsList-from_slice c.args.view.now.hungs cc)) c.map-3.ensures.closure (λ x r q k. search (rules, tests))))
    (cc) cc))
    (YieldsList-at c.chain-3.ensures.second (YieldsList-from_map _ part.Route (YieldsList-at
    c.map-4.ensures.source (YieldsList-from_slice c.args.view.now.routes cc)) c.map-4.ensures.closure (λ x r q k.
    search (rules, tests)))) (cc) cc))
    (YieldsList-at c.chain-4.ensures.second (YieldsList-from_map _ part.Descriptor (YieldsList-at
    c.map-5.ensures.source (YieldsList-from_slice c.args.view.now.fds cc)) c.map-5.ensures.closure (λ x r q k.
    search (rules, tests)))) (cc) cc))
    (YieldsList-at c.chain-5.ensures.second (YieldsList-from_map _ part.Binding (YieldsList-at
    c.map-6.ensures.source (YieldsList-from_slice c.args.view.now.binds cc)) c.map-6.ensures.closure (λ x r q k.
    search (rules, tests)))) (cc) cc))
    (YieldsList-at c.chain-6.ensures.second (YieldsList-from_map _ part.Queue (YieldsList-at
    c.map-7.ensures.source (YieldsList-from_slice c.args.queues.now cc)) c.map-7.ensures.closure (λ x r q k.
    search (rules, tests)))) (cc) cc))
    (YieldsList-at c.chain-parts.ensures.second (YieldsList-from_map _ part.Full (YieldsList-at
    c.map-8.ensures.source (YieldsList-from_slice c.args.view.now.fulls cc)) c.map-8.ensures.closure (λ x r q k.
    search (rules, tests)))) (cc) cc) in search rules
