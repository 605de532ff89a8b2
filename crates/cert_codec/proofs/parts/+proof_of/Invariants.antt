use Rattle.cert_codec.proofs.parts.+proof_of.Given as goal

abbrev pub decreases-proof_of : goal.decreases-proof_of
decreases-proof_of l = l.levels
