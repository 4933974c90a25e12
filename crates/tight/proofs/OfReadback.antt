-- Each public function of `readback` has a tight contract. Assumes nothing.
use mathlib.Core.Path.{◌≡◌, refl}
use Rattle.readback.specs.contracts.judge
use Rattle.readback.specs.contracts.one
use Rattle.readback.specs.contracts.reader
use Rattle.readback.specs.contracts.told
use Rattle.readback.specs.declared.reader.Reader.{Reader}
use Rattle.readback.specs.Reader.{Handed}
use Rattle.tight.specs.Tight.{Tight}
use Rattle.tight.proofs.Law.{plainly, by_both, same}

-- what the iterator may hand out and leave is one
pub reader_gives_one : (r s t : Reader) (a b : Handed) → reader.ReaderIterator.TheImpl.next_gives-value.it r a s → reader.ReaderIterator.TheImpl.next_gives-value.it r b t → (a ≡ b) × (s ≡ t)
reader_gives_one r s t a b e d = (same e.0 d.0, λ i. record { text = same e.1 d.1 i; at = same e.2 d.2 i })

module _ {M : Type 1} where
  pub judge-judge : Tight M judge.judge.signature (λ 𝓤. judge.judge.clauses)
  judge-judge c g r s = plainly c.𝓤 (λ e d. (same e d, refl))

  pub judge-U8FromRefusal-from : Tight M judge.U8FromRefusal.from.signature (λ 𝓤. judge.U8FromRefusal.from.clauses)
  judge-U8FromRefusal-from c g r s = plainly c.𝓤 (λ e d. (same e d, refl))

  pub one-record_at : Tight M one.record_at.signature (λ 𝓤. one.record_at.clauses)
  one-record_at c g r s = plainly c.𝓤 (λ e d. (same e d, refl))

  pub one-read_answer : Tight M one.read_answer.signature (λ 𝓤. one.read_answer.clauses)
  one-read_answer c g r s = plainly c.𝓤 (λ e d. (same e d, refl))

  pub reader-next_at : Tight M reader.next_at.signature (λ 𝓤. reader.next_at.clauses)
  reader-next_at c g r s = plainly c.𝓤 (λ e d. (same e d, refl))

  pub reader-ReaderIterator-next : Tight M reader.ReaderIterator.next.signature (λ 𝓤. reader.ReaderIterator.next.clauses)
  reader-ReaderIterator-next c g r s = by_both c.𝓤 _ _ _ _ (λ e d. let both = reader_gives_one _ _ _ _ _ e.0 d.0 in (both.0, λ i. (both.1 i, tt)))

  pub told-tell : Tight M told.tell.signature (λ 𝓤. told.tell.clauses)
  told-tell c g r s = plainly c.𝓤 (λ e d. (same e.0 d.0, λ i. (tt, (same e.1 d.1 i, tt))))

  pub told-tell_next : Tight M told.tell_next.signature (λ 𝓤. told.tell_next.clauses)
  told-tell_next c g r s = plainly c.𝓤 (λ e d. let t = same e d in (λ i. (t i).status, λ i. (tt, ((t i).place, ((t i).numbers, ((t i).start, tt))))))
