use Rattle.cert_codec.proofs.parts.+high_of.Given as goal

abbrev pub decreases-high_of : goal.decreases-high_of
decreases-high_of l = l.more
