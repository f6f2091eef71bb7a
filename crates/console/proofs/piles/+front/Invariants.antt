use Rattle.console.proofs.piles.+front.Given as goal

abbrev pub decreases-front : goal.decreases-front
decreases-front l = l.levels
