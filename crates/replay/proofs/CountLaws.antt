-- The records of a text one by one, and block by block. Assumes nothing.
use mathlib.Core.{Path.◌≡◌, Path.refl, Path.ap, Path.◌∙◌, Bool.Bool, Bool.true, Bool.false, Bool.cond, List.List, List.[], List.◌∷◌, List.◌++◌}
use Rattle.std.proofs.Common.{ℕ, suc, ◌+◌, ◌%◌, ◌^◌, ◌<◌, ◌≤◌, le-ltb, lt-ltb}
use native.Mathlib.{Nat.add-zero, Omega.arith}
use lib.{Dec.eqb, ListN.length, ListN.take, ListN.drop, ListN.length-append}
use Rattle.text.specs.Lines.{line_length, takes, with_byte, bytes_in}
use Rattle.text.proofs.{NextLine.no_line, NextLine.first_line}
use Rattle.replay.specs.{Record.right, Counted.records_in, Counted.wrong, Counted.count_on, declared.Replayed.Replayed}

-- a line feed: one record, and then those behind it
pub first_record : (t : List ℕ) → line_length t < length t → records_in t ≡ take (line_length t) t ∷ records_in (drop (suc (line_length t)) t)
first_record t h =
    let taken : takes false t ≡ suc (line_length t) = rw (lt-ltb (line_length t) (length t) h) refl in
    first_line false t (omega (arith, taken)) ∙ ap (λ (k : ℕ). take (line_length t) t ∷ records_in (drop k t)) taken

-- none: no record
pub no_record : (t : List ℕ) → length t ≤ line_length t → records_in t ≡ []
no_record t h = no_line false t (rw (le-ltb (line_length t) (length t) h) refl)

-- they lie within the text
within_by : (x : Bool) (b n : ℕ) (rs : List (List ℕ)) → bytes_in rs ≤ n → bytes_in (cond x ([] ∷ rs) (with_byte false b rs)) ≤ suc n
within_by true b n rs h = omega arith
within_by false b n [] h = omega arith
within_by false b n (r ∷ rs) h = omega arith

pub taken_within : (t : List ℕ) → bytes_in (records_in t) ≤ length t
taken_within [] = omega arith
taken_within (b ∷ t) = within_by (eqb b 0x0A) b (length t) (records_in t) (taken_within t)

-- ---- the count

-- so many bytes used and so much counted, and then a text
abbrev pub count_from : ℕ → ℕ → ℕ → List ℕ → Replayed
count_from used n d text =
    record { used = used + bytes_in (records_in text); records = (n + length (records_in text)) % 2 ^ 64; differ = (d + wrong (records_in text)) % 2 ^ 64 }

-- a count that wraps may be taken in steps
wraps : (a b k : ℕ) → ((a + b) % 2 ^ 64 + k) % 2 ^ 64 ≡ (a + (b + k)) % 2 ^ 64
wraps a b k = omega arith

-- one record more, and then those behind it; w tells whether it is wrong
pub counts_on : (used n d w : ℕ) (text recorded behind : List ℕ) → records_in text ≡ recorded ∷ records_in behind → w ≡ cond (right recorded) 0 1
    → count_from (used + suc (length recorded)) ((n + 1) % 2 ^ 64) ((d + w) % 2 ^ 64) behind ≡ count_from used n d text
counts_on used n d w text recorded behind one told =
    let rs = records_in behind in
    let bytes : used + suc (length recorded) + bytes_in rs ≡ used + (suc (length recorded) + bytes_in rs) = omega arith in
    let counted : ((n + 1) % 2 ^ 64 + length rs) % 2 ^ 64 ≡ (n + suc (length rs)) % 2 ^ 64 = wraps n 1 (length rs) ∙ ap (λ (x : ℕ). (n + x) % 2 ^ 64) (omega arith) in
    rw (one, told) (λ i. record { used = bytes i; records = counted i; differ = wraps d (cond (right recorded) 0 1) (wrong rs) i })

-- nothing is left to count
pub counts_out : (used n d : ℕ) (text : List ℕ) → n < 2 ^ 64 → d < 2 ^ 64 → records_in text ≡ [] → count_from used n d text ≡ record { used = used; records = n; differ = d }
counts_out used n d text small_n small-d none =
    let same : (x : ℕ) → x < 2 ^ 64 → (x + 0) % 2 ^ 64 ≡ x = λ x h. omega arith in
    rw none (λ i. record { used = add-zero used i; records = same n small_n i; differ = same d small-d i })

-- ---- block by block

-- the records of two blocks are those of the first, and then those of what it leaves with the second behind it
pub records_by_blocks : (t v : List ℕ) → records_in (t ++ v) ≡ records_in t ++ records_in (drop (bytes_in (records_in t)) t ++ v)
records_by_blocks [] v = refl
records_by_blocks (b ∷ t) v = by (eqb b 0x0A) (records_in t) refl (records_by_blocks t v)
  where
    by : (x : Bool) (rs : List (List ℕ)) → eqb b 0x0A ≡ x → records_in (t ++ v) ≡ rs ++ records_in (drop (bytes_in rs) t ++ v)
        → cond x ([] ∷ records_in (t ++ v)) (with_byte false b (records_in (t ++ v))) ≡ cond x ([] ∷ rs) (with_byte false b rs) ++ records_in (drop (bytes_in (cond x ([] ∷ rs) (with_byte false b rs))) (b ∷ t) ++ v)
    by true rs q h = let past : bytes_in ([] ∷ rs) ≡ suc (bytes_in rs) = omega arith in rw (past, ← h)
    by false [] q h = rw q
    by false (r ∷ rs) q h = let past : bytes_in ((b ∷ r) ∷ rs) ≡ suc (bytes_in (r ∷ rs)) = omega arith in rw (past, h)

wrong_append : (rs qs : List (List ℕ)) → wrong (rs ++ qs) ≡ wrong rs + wrong qs
wrong_append [] qs = omega arith
wrong_append (r ∷ rs) qs = omega (arith, wrong_append rs qs)

-- so what is counted of the one and then of the other is the count of both
pub counted_by_blocks : (before : Replayed) (t v : List ℕ)
    → (let d = count_on before t in
    let rest = drop d.used t ++ v in
    ((count_on d rest).records ≡ (count_on before (t ++ v)).records) × ((count_on d rest).differ ≡ (count_on before (t ++ v)).differ))
counted_by_blocks before t v =
    let rest = records_in (drop (bytes_in (records_in t)) t ++ v) in
    let all = records_by_blocks t v in
    (wraps before.records (length (records_in t)) (length rest) ∙ rw (all, length-append), wraps before.differ (wrong (records_in t)) (wrong rest) ∙ rw (all, wrong_append))
