-- What the proofs need of the table of levels.
use Rattle.std.proofs.Common.{◌≡◌, suc, ◌≤◌, Bool, true, false, List, [], ◌∷◌, refl, arith}
use Rattle.ck_text.specs.declared.token.Sign.{Sign}
use Rattle.ck_text.specs.declared.token.Sign.TheVariants as sign
use Rattle.ck_text.specs.declared.token.Prefix.TheVariants as prefixes
use Rattle.ck_text.specs.Texts.{Lead, prefix, level, left_want, right_want, lead_level, suits}
use Rattle.ck_text.specs.Machine.{Frame, leading, operand, parenthesis, want}

pub left_least : (o : Sign) → level o ≤ left_want o
left_least sign.Implies = omega arith
left_least o = omega arith

pub left_most : (o : Sign) → left_want o ≤ suc (level o)
left_most sign.Implies = omega arith
left_most o = omega arith

pub right_most : (o : Sign) → right_want o ≤ 11
right_most sign.Implies = omega arith
right_most o = omega arith

pub lead_most : (l : Lead) → lead_level l ≤ 11
lead_most (prefix prefixes.Tilde) = omega arith
lead_most l = omega arith

-- what may be the left operand of a sign is complete before it
pub binds : (o p : Sign) → left_want o ≤ level p → suc (level o) ≤ right_want p
binds sign.Implies sign.Implies h = omega (arith, h)
binds sign.Implies p h = omega (arith, h)
binds sign.OrElse sign.Implies h = omega (arith, h)
binds sign.OrElse p h = omega (arith, h)
binds sign.AndAlso sign.Implies h = omega (arith, h)
binds sign.AndAlso p h = omega (arith, h)
binds sign.Either sign.Implies h = omega (arith, h)
binds sign.Either p h = omega (arith, h)
binds sign.Both sign.Implies h = omega (arith, h)
binds sign.Both p h = omega (arith, h)
binds sign.Equal sign.Implies h = omega (arith, h)
binds sign.Equal p h = omega (arith, h)
binds sign.Less sign.Implies h = omega (arith, h)
binds sign.Less p h = omega (arith, h)
binds sign.AtMost sign.Implies h = omega (arith, h)
binds sign.AtMost p h = omega (arith, h)
binds sign.Plus sign.Implies h = omega (arith, h)
binds sign.Plus p h = omega (arith, h)
binds sign.Minus sign.Implies h = omega (arith, h)
binds sign.Minus p h = omega (arith, h)
binds sign.Times sign.Implies h = omega (arith, h)
binds sign.Times p h = omega (arith, h)

pub binds_lead : (o : Sign) (l : Lead) → left_want o ≤ lead_level l → suc (level o) ≤ lead_level l
binds_lead sign.Implies (prefix prefixes.Tilde) h = omega (arith, h)
binds_lead sign.Implies l h = omega (arith, h)
binds_lead sign.OrElse (prefix prefixes.Tilde) h = omega (arith, h)
binds_lead sign.OrElse l h = omega (arith, h)
binds_lead sign.AndAlso (prefix prefixes.Tilde) h = omega (arith, h)
binds_lead sign.AndAlso l h = omega (arith, h)
binds_lead sign.Either (prefix prefixes.Tilde) h = omega (arith, h)
binds_lead sign.Either l h = omega (arith, h)
binds_lead sign.Both (prefix prefixes.Tilde) h = omega (arith, h)
binds_lead sign.Both l h = omega (arith, h)
binds_lead sign.Equal (prefix prefixes.Tilde) h = omega (arith, h)
binds_lead sign.Equal l h = omega (arith, h)
binds_lead sign.Less (prefix prefixes.Tilde) h = omega (arith, h)
binds_lead sign.Less l h = omega (arith, h)
binds_lead sign.AtMost (prefix prefixes.Tilde) h = omega (arith, h)
binds_lead sign.AtMost l h = omega (arith, h)
binds_lead sign.Plus (prefix prefixes.Tilde) h = omega (arith, h)
binds_lead sign.Plus l h = omega (arith, h)
binds_lead sign.Minus (prefix prefixes.Tilde) h = omega (arith, h)
binds_lead sign.Minus l h = omega (arith, h)
binds_lead sign.Times (prefix prefixes.Tilde) h = omega (arith, h)
binds_lead sign.Times l h = omega (arith, h)

-- whatever stands for itself is tight enough
pub want_most : (stack : List Frame) → want stack ≤ 11
want_most [] = omega arith
want_most (leading l ∷ stack) = lead_most l
want_most (operand o a ∷ stack) = right_most o
want_most (parenthesis ∷ stack) = omega arith

-- a term suits everywhere
pub term_suits : (asked : Bool) → suits asked true ≡ true
term_suits true = refl
term_suits false = refl
