-- The key of a node tells it whole, so equal nodes are hashed alike.
use Rattle.std.proofs.Common.{◌≡◌, true, nat_eq, ◌&&◌, refl, ap, subst}
use Rattle.std.proofs.lemmas.Bool.{and_parts, and_from, eqb-true, eq-eqb}
use Rattle.std.specs.Bool.{Decides}
use Rattle.std.specs.Cmp.{IsEquivalence, IsPartialEquivalence, decided, on_equiv, partial_equiv_from_equiv}
use Rattle.std.specs.Ordering.{on}
use Rattle.type_checker.specs.declared.hashed.Node.{Node}
use Rattle.type_checker.specs.Same.{same_formula}
use Rattle.type_checker.specs.Keys.{Key, key_of, same_key, key_writes}
use Rattle.type_checker.specs.SameLaws.{formula_is, formula_same}

pub key_is : (k l : Key) → same_key k l ≡ true → k ≡ l
key_is k l e =
    let whole = and_parts (same_formula k.0 l.0) (nat_eq k.1.0 l.1.0 && nat_eq k.1.1 l.1.1) e in
    let numbers = and_parts (nat_eq k.1.0 l.1.0) (nat_eq k.1.1 l.1.1) whole.1 in
    let head = formula_is k.0 l.0 whole.0 in
    let left = eqb-true k.1.0 l.1.0 numbers.0 in
    let right = eqb-true k.1.1 l.1.1 numbers.1 in
    (λ i. (head i, (left i, right i)))

pub key_same : (k : Key) → same_key k k ≡ true
key_same k = and_from _ _ (formula_same k.0) (and_from _ _ (eq-eqb k.1.0 k.1.0 refl) (eq-eqb k.1.1 k.1.1 refl))

key_decides : (k l : Key) → Decides (same_key k l) (k ≡ l)
key_decides k l = (key_is k l, λ e. subst (λ m. same_key k m ≡ true) e (key_same k))

pub nodes_wholly : IsEquivalence (on key_of same_key)
nodes_wholly = on_equiv key_of (decided same_key key_decides)

pub nodes_partly : IsPartialEquivalence (on key_of same_key)
nodes_partly = partial_equiv_from_equiv nodes_wholly

pub nodes_alike : (x y : Node) → same_key (key_of x) (key_of y) ≡ true → key_writes (key_of x) ≡ key_writes (key_of y)
nodes_alike x y e = ap key_writes (key_is (key_of x) (key_of y) e)
