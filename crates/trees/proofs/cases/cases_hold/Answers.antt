-- Each state is what the relation makes of the one before, so every link is by computation.
use Rattle.std.proofs.Common.{refl}
use Rattle.registers.specs.Meaning.{largest}
use Rattle.registers.specs.Runs.{done, read, write, access}
use Rattle.registers.specs.declared.answers.Became.TheVariants.{Read, Written}
use Rattle.trees.specs.Cases.{WriteSix, WriteThreeAfterSix, WriteTwentyBesideTwentyFour, RangeOfThreeAndTwo, last, then}
use Rattle.trees.specs.Switches.{reach}
use Rattle.trees.specs.Walks.{fall, rise, climb, descend}
use Rattle.trees.proofs.cases.cases_hold.Goals as goal

six : WriteSix
unfolding reach fall rise climb descend
six = ((_, refl, then refl (refl, refl) (then refl (refl, refl) (then refl (refl, refl) (then refl (refl, refl) (then refl (refl, refl) (then refl (refl, refl) (last refl (refl, refl)))))))), (_, _, _, refl, then refl (refl, refl) (then refl (refl, refl) (then refl (refl, refl) (then refl (refl, refl) (then refl (refl, refl) (then refl (refl, refl) (last refl (refl, refl)))))))))

three : WriteThreeAfterSix
unfolding reach fall rise climb descend largest
three = ((_, refl, then refl (refl, refl) (then refl (refl, refl) (then refl (refl, refl) (then refl (refl, refl) (last refl (refl, refl)))))), refl)

twenty : WriteTwentyBesideTwentyFour
unfolding reach fall rise climb descend
twenty = (_, _, (_, refl, then refl (refl, refl) (then refl (refl, refl) (then refl (refl, refl) (then refl (refl, refl) (then refl (refl, refl) (last refl (refl, refl))))))), refl, refl, (_, refl, then refl (refl, refl) (then refl (refl, refl) (then refl (refl, refl) (then refl (refl, refl) (last refl (refl, refl)))))), (_, _, _, refl, then refl (refl, refl) (then refl (refl, refl) (then refl (refl, refl) (then refl (refl, refl) (then refl (refl, refl) (then refl (refl, refl) (last refl (refl, refl)))))))))

range : RangeOfThreeAndTwo
range = (_, _, write 1 3 refl (access 1 Written (refl, refl) done), refl, write 2 2 refl (access 2 Written (refl, refl) (read 1 refl (access 1 (Read 3) (refl, refl) (read 3 refl (access 3 (Read 2) (refl, refl) done))))))

pub returns : goal.returns
returns c = (six, three, twenty, range)
