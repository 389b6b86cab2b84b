use Rattle.oergen_parse.proofs.values.+push_parts.Given as goal

abbrev pub decreases-push_parts : goal.decreases-push_parts
decreases-push_parts l = l.levels
