use Rattle.cert_codec.proofs.parts.+formula_of.Given as goal

abbrev pub decreases-formula_of : goal.decreases-formula_of
decreases-formula_of l = l.levels
