use Rattle.type_checker.proofs.interner.Interner.+numbered.Goals as goal

pub returns-in_err-right-in-Imp-clause-kept : goal.returns-in_err-right-in-Imp-clause-kept
returns-in_err-right-in-Imp-clause-kept t c = λ i f h.
    c.numbered-in-Imp-2.ensures.kept i f (c.numbered-in-Imp.ensures.kept i f h)

pub returns-in_ok-left-in-All-clause-kept : goal.returns-in_ok-left-in-All-clause-kept
returns-in_ok-left-in-All-clause-kept t c = λ i f h.
    c.put-in-All.ensures.kept i f (c.numbered.ensures.kept i f h)

pub returns-in_ok-right-in-Imp-clause-kept : goal.returns-in_ok-right-in-Imp-clause-kept
returns-in_ok-right-in-Imp-clause-kept t c = λ i f h.
    c.put-in-Imp.ensures.kept i f (c.numbered-in-Imp-2.ensures.kept i f (c.numbered-in-Imp.ensures.kept i f h))
