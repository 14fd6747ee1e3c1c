use Rattle.std.proofs.Common.{refl}
use Rattle.smx_text.specs.TranscriptLines as line
use Rattle.smx_text.proofs.TranscriptGrammarLemmas.{group_answers, no_line}
use Rattle.smx_text.proofs.transcript.TranscriptDraft.add_to_group.Goals as goal

pub returns-in-Some-clause-answers : goal.returns-in-Some-clause-answers
returns-in-Some-clause-answers c =
    group_answers c.args.self.now (line.Fd c.in-Some.fd) _ c.requires.begun refl (λ e. cc)
    (λ fds. record c.args.self.now.transcript.view { fds = fds }) _ _ _ _ c.takes_fds.ensures refl
    c.in-Some.ensures _ c.push_if.ensures.pushed c.push_if.ensures.refused

pub returns-in-Some-link_of-clause-answers : goal.returns-in-Some-link_of-clause-answers
returns-in-Some-link_of-clause-answers c =
    group_answers c.args.self.now (line.Link c.in-Some-link_of.link) _ c.requires.begun refl (λ e. cc)
    (λ links. record c.args.self.now.transcript.view { links = links }) _ _ _ _ c.takes_links.ensures refl
    c.in-Some-link_of.ensures _ c.push_if-in-Some-link_of.ensures.pushed c.push_if-in-Some-link_of.ensures.refused

pub returns-in-Some-bind_of-clause-answers : goal.returns-in-Some-bind_of-clause-answers
returns-in-Some-bind_of-clause-answers c =
    group_answers c.args.self.now (line.Bind c.in-Some-bind_of.bind) _ c.requires.begun refl (λ e. cc)
    (λ binds. record c.args.self.now.transcript.view { binds = binds }) _ _ _ _ c.takes_binds.ensures refl
    c.in-Some-bind_of.ensures _ c.push_if-in-Some-bind_of.ensures.pushed c.push_if-in-Some-bind_of.ensures.refused

pub returns-in-Some-route_of-clause-answers : goal.returns-in-Some-route_of-clause-answers
returns-in-Some-route_of-clause-answers c =
    group_answers c.args.self.now (line.Route c.in-Some-route_of.route) _ c.requires.begun refl (λ e. cc)
    (λ routes. record c.args.self.now.transcript.view { routes = routes }) _ _ _ _ c.takes_routes.ensures refl
    c.in-Some-route_of.ensures _ c.push_if-in-Some-route_of.ensures.pushed c.push_if-in-Some-route_of.ensures.refused

pub returns-in-Some-full_of-clause-answers : goal.returns-in-Some-full_of-clause-answers
returns-in-Some-full_of-clause-answers c =
    group_answers c.args.self.now (line.Full c.in-Some-full_of.full) _ c.requires.begun refl (λ e. cc)
    (λ fulls. record c.args.self.now.transcript.view { fulls = fulls }) _ _ _ _ c.takes_fulls.ensures refl
    c.in-Some-full_of.ensures _ c.push_if-in-Some-full_of.ensures.pushed c.push_if-in-Some-full_of.ensures.refused

pub returns-in-Some-read_hung-clause-answers : goal.returns-in-Some-read_hung-clause-answers
returns-in-Some-read_hung-clause-answers c =
    group_answers c.args.self.now (line.Hung c.in-Some-read_hung.hung) _ c.requires.begun refl (λ e. cc)
    (λ hungs. record c.args.self.now.transcript.view { hungs = hungs }) _ _ _ _ c.takes_hungs.ensures refl
    c.in-Some-read_hung.ensures _ c.push_if-in-Some-read_hung.ensures.pushed c.push_if-in-Some-read_hung.ensures.refused

pub returns-in-None-clause-answers : goal.returns-in-None-clause-answers
returns-in-None-clause-answers c =
    no_line _ _ _ c.requires.no_entry c.requires.no_message c.requires.no_driver c.requires.no_config
    c.requires.no_next c.in_default.ensures c.in_default-link_of.ensures c.in_default-bind_of.ensures
    c.in_default-route_of.ensures c.in_default-full_of.ensures c.in-None.ensures c.requires.no_end
