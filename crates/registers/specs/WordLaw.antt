-- The word keeps the plain meaning.
use Rattle.std.specs.Prelude.{◌≡◌, ℕ, ◌<◌, Some, None, refl}
use Rattle.std.proofs.Common.{ap, arith}
use Rattle.registers.specs.declared.single.Single.{Single}
use Rattle.registers.specs.declared.single.Single.TheVariants.{Read, Write}
use Rattle.registers.specs.declared.word_state.Word.{Word}
use Rattle.registers.specs.Model.{Plain, Accesses}
use Rattle.registers.specs.Operations.{at, doing_of}
use Rattle.registers.specs.Single.{single_op}
use Rattle.registers.specs.Word.{word_model, word_meaning, word_answer, word_stepped}
use Rattle.registers.specs.Accepted.{accept_step, of_step}
use Rattle.registers.specs.Slots.{blank}
use Rattle.registers.specs.Singles.{single_unspent, read_ends, write_ends}
use Rattle.registers.specs.Turns.{may_read, may_write, read_begins, write_begins}

access : (x : Word) (p : ℕ) → p < 16 → (a : Single) → at x.state.operations p ≡ Some a → Accesses p (word_answer a x.state.number) (word_meaning x.state) (word_meaning (word_stepped x.state p a))
access x p h Read is = read_ends (record { sixteen = x.sixteen; processor = h; changed = refl }) _ _ _ _ (λ _ _. omega arith) x.state.number is refl (omega arith) (omega arith) (omega arith)
access x p h (Write n) is = write_ends (record { sixteen = x.sixteen; processor = h; changed = refl }) _ _ _ _ (λ _ _. omega arith) n is refl (omega arith)

pub word_plain : Plain word_model
word_plain = record {
  within_bound = λ x _. let h = x.held in let k = x.asked in omega arith;
  below_ceiling = λ x _ p _. omega arith;
  unspent = λ x _ p h. single_unspent word_model.stated (omega arith) (omega arith) (at x.state.operations p);
  new = λ x e. (rw e (record { all_idle = λ p _. ap (doing_of single_op) (blank None 16 p); floors_one = λ _ _. refl; ceiling_one = refl }), tt);
  read = λ x y p _ ok e.
      let (h, free) = may_read single_op p (at x.state.operations p) ok in
      (rw e (read_begins single_op (record { sixteen = x.sixteen; processor = h; changed = refl }) _ _ _ _ (λ _ _. omega arith) free refl refl), tt);
  write = λ x y p n _ ok e.
      let (h, free, _, _) = may_write single_op 256 p n (at x.state.operations p) ok in
      (rw e (write_begins single_op (record { sixteen = x.sixteen; processor = h; changed = refl }) _ _ _ _ (λ _ _. omega arith) n free refl refl), tt);
  step = λ x y p b _ ok e.
      let access = access x p (accept_step p _ ok).0 in
      (of_step _ _ (λ b v. Accesses p b (word_meaning x.state) (word_meaning v)) (at x.state.operations p) b y.state access e, tt);
}
