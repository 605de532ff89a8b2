-- How far the real target is.
use Rattle.ck_base.specs.Outside.{Stage, fresh, begun, spent}
use Rattle.cocktail.specs.declared.adapters.Progress.{Progress}
use Rattle.cocktail.specs.declared.adapters.Progress.TheVariants.{Fresh, Begun, Spent}

abbrev pub stage_of : Progress → Stage
stage_of Fresh = fresh
stage_of (Begun file) = begun
stage_of Spent = spent
