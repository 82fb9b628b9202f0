-- A refusal on one line: its number, its place and its layer.
use Rattle.std.specs.Prelude.{ℕ, List, ◌++◌, codes}
use Rattle.text.specs.Written.{word_pair, number_pair}
use Rattle.text.specs.declared.fault.Layer.{Layer}
use Rattle.text.specs.declared.fault.Layer.TheVariants.{Text, Field, Pool}
use Rattle.text.specs.declared.fault.PlacedFault.{PlacedFault}
use Rattle.text.specs.declared.fault.Refusal.{Refusal}
use Rattle.text.specs.declared.fault.Refusal.TheVariants.{TooLong, BadByte, Unended, OtherKey, BadValue, Surplus, JobRefused, ListFull}

abbrev pub number_of : Refusal → ℕ
number_of TooLong = 19
number_of BadByte = 20
number_of Unended = 21
number_of OtherKey = 22
number_of BadValue = 23
number_of Surplus = 24
number_of JobRefused = 25
number_of ListFull = 27

abbrev pub layer_of : Refusal → Layer
layer_of TooLong = Text
layer_of BadByte = Text
layer_of Unended = Text
layer_of OtherKey = Text
layer_of BadValue = Field
layer_of Surplus = Text
layer_of JobRefused = Field
layer_of ListFull = Pool

abbrev pub layer_text : Layer → List ℕ
layer_text Text = codes "text"
layer_text Field = codes "field"
layer_text Pool = codes "pool"

unfoldable pub fault_text : PlacedFault → List ℕ
fault_text f =
    number_pair (codes "fault") (number_of f.refusal) 32
    ++ (number_pair (codes "line") f.line 32
    ++ (number_pair (codes "byte") f.byte 32
    ++ word_pair (codes "layer") (layer_text (layer_of f.refusal)) 10))
