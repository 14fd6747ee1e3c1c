use Rattle.smx_words.proofs.reading.command.command_of.Goals as goal

pub returns-in_default-clause-reading : goal.returns-in_default-clause-reading
returns-in_default-clause-reading c = c.lone_command.ensures c.args.version
