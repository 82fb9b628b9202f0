-- What a caller of any head register learns from an answer: of a sound register, all that the plain laws say.
use Rattle.std.proofs.Common.{ℕ, ◌<◌, Ok}
use Rattle.registers.specs.declared.answers.Became.{Became}
use Rattle.registers.specs.Meaning.{is_busy}
use Rattle.registers.specs.Model.{Model, Plain, Reads, Writes, Steps, ReadBegins, WriteBegins, Accesses}
use Rattle.registers.specs.Refusals.{refuse_read, refuse_write, refuse_step}
use Rattle.registers.specs.Accepted.{accepted, accept_read, accept_write, accept_step}

module _ {S : Type 0} (r : Model S) (law : Plain r) where
  pub read_begun : (x y : S) (p : ℕ) → r.sound x → Reads r x p (Ok tt) y → ReadBegins p (r.meaning x) (r.meaning y) × r.sound y × (p < 16)
  read_begun x y p s d =
      let refusal = refuse_read p (is_busy ((r.meaning x).doing p)) in
      let (none, c) = accepted refusal (λ _. r.reads x p) x y tt d in
      let (b, k) = law.read x y p s none c in
      (b, k, (accept_read p _ none).0)

  pub write_begun : (x y : S) (p n : ℕ) → r.sound x → Writes r x p n (Ok tt) y → WriteBegins p n (r.meaning x) (r.meaning y) × r.sound y × (p < 16)
  write_begun x y p n s d =
      let refusal = refuse_write r.stated.bound p n (is_busy ((r.meaning x).doing p)) in
      let (none, c) = accepted refusal (λ _. r.writes x p n) x y tt d in
      let (b, k) = law.write x y p n s none c in
      (b, k, (accept_write r.stated.bound p n _ none).0)

  pub accessed : (x y : S) (p : ℕ) (b : Became) → r.sound x → Steps r x p (Ok b) y → Accesses p b (r.meaning x) (r.meaning y) × r.sound y × (p < 16)
  accessed x y p b s d =
      let refusal = refuse_step p (is_busy ((r.meaning x).doing p)) in
      let (none, c) = accepted refusal (r.steps x p) x y b d in
      let (a, k) = law.step x y p b s none c in
      (a, k, (accept_step p _ none).0)
