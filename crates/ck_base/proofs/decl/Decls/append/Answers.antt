use Rattle.std.proofs.Common.{◌≡◌, ◌<◌, true, [], ◌∷◌, ◌++◌, length, sym, subst, ◌∙◌}
use Rattle.ck_base.specs.Names.{is_name, number_of}
use Rattle.ck_base.proofs.Declarations.{table_more, decls_more}
use Rattle.ck_base.proofs.decl.Decls.append.Goals as goal

pub invariant_of-self-2 : goal.invariant_of-self-2
invariant_of-self-2 c =
    let text : c.append.new.self ≡ c.args.name.now = c.in_ok-append.ensures.ok ∙ (λ i. c.new-text.ensures i ++ c.as_bytes.ensures.value i) in
    table_more _ _ _ _ c.in_ok-insert.ensures.entries c.self.invariant (c.in_ok-key.ensures.ok ∙ sym text)
    (subst (λ n. is_name n ≡ true) (sym text) c.requires.rule)
    ((λ i. number_of (text i) (c.self.view_is i)) ∙ c.requires.fresh)
    (subst (λ ds. length ds < 64) (sym c.self.view_is) c.requires.room)

pub returns-clause-ok : goal.returns-clause-ok
returns-clause-ok c =
    let text : c.append.new.self ≡ c.args.name.now = c.in_ok-append.ensures.ok ∙ (λ i. c.new-text.ensures i ++ c.as_bytes.ensures.value i) in
    decls_more _ _ _ _ c.in_ok-insert.ensures.entries c.self.invariant.0 (c.in_ok-key.ensures.ok ∙ sym text) ((λ i. number_of (text i) (c.self.view_is i)) ∙ c.requires.fresh)
    ∙ (λ i. c.self.view_is i ++ record { name = text i; kind = c.args.kind; sort = c.args.sort } ∷ [])
