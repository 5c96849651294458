use Rattle.covers.proofs.dividing.+divide.Given as goal

abbrev pub decreases-divide : goal.decreases-divide
decreases-divide l = l.undecided
