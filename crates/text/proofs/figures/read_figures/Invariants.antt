use Rattle.std.proofs.Common.{◌≡◌, ◌≤◌, drop}
use Rattle.text.specs.Figures.{figures}
use Rattle.text.proofs.figures.read_figures.Given as goal

abbrev pub invariant-loop-c : goal.invariant-loop-c
invariant-loop-c l = (l.n ≤ l.most) × (figures l.most l.n (drop l.c-index l.word) ≡ figures l.most 0 l.word)
