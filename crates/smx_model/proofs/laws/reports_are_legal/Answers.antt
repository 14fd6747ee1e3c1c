use Rattle.smx_model.proofs.ReportLemmas.{report_of}
use Rattle.smx_model.proofs.laws.reports_are_legal.Goals as goal

pub returns-clause-drivers : goal.returns-clause-drivers
returns-clause-drivers c programs r h = (h.drivers, h.valid_drivers)

pub returns-clause-legal : goal.returns-clause-legal
returns-clause-legal c programs r h = h.legal

pub returns-clause-holds : goal.returns-clause-holds
returns-clause-holds c programs r h = h.holds

pub returns-clause-shown : goal.returns-clause-shown
returns-clause-shown c programs r h = h.shown

pub returns-clause-lawful : goal.returns-clause-lawful
returns-clause-lawful c programs r h = h.lawful

pub returns-clause-drops : goal.returns-clause-drops
returns-clause-drops c programs r h = h.drops

pub returns-clause-enough : goal.returns-clause-enough
returns-clause-enough c = report_of
