use Rattle.registers.specs.declared.single.Single as code
use Rattle.registers.specs.declared.single.Single.TheVariants as single
use Rattle.registers.specs.Meaning.{Operation, reading, writing}

-- an operation of one access has made none yet
abbrev pub single_op : code.Single → Operation
single_op single.Read = reading 0
single_op (single.Write n) = writing n 0
