-- Lanes of any width: a sum, a product and a mask of a word work in each lane, a lane can be read, each can be split in two, and two can be joined. Assumes nothing.
use mathlib.Core.{Path.◌≡◌, Path.refl, Path.sym, Path.ap, Path.ap₂, Path.subst, Path.◌∙◌, Bool.Bool, Bool.true, Bool.false, List.List, List.[], List.◌∷◌}
use Prim.Native.Nat.{ℕ, zero, suc, ◌+◌, ◌-◌, ◌*◌, ◌/◌, ◌%◌, ◌^◌, ◌<◌}
use native.Mathlib.Nat.{mul-one, mul_assoc, mod-lt, zero-mod, zero-div, div-one, mul-div_cancel, div-div-eq-div-mul, pow-zero, pow-succ'}
use native.Mathlib.Omega.{arith}
use lib.{Arith.digits_lt, Arith.digits_div, Arith.digits_mod, Bits.bit_and, Bits.and_block, Bits.and_mask, Bits.and_high, ListN.get_or, Pow.pow-add, Pow.pow_pos}
use Rattle.text.specs.Lanes.{lanes}

-- f in each lane
abbrev pub each : (ℕ → ℕ) → List ℕ → List ℕ
each f [] = []
each f (b ∷ bs) = f b ∷ each f bs

-- P holds of every lane
abbrev pub All : (ℕ → Type 0) → List ℕ → Type 0
All P [] = Unit {0}
All P (b ∷ bs) = P b × All P bs

-- every lane below m
abbrev pub Below : ℕ → List ℕ → Type 0
Below m = All (λ b. b < m)

pub each_all : (P Q : ℕ → Type 0) (f : ℕ → ℕ) → ((b : ℕ) → P b → Q (f b)) → (bs : List ℕ) → All P bs → All Q (each f bs)
each_all P Q f e [] h = tt
each_all P Q f e (b ∷ bs) h = (e b h.0, each_all P Q f e bs h.1)

module _ (w : ℕ) where
  pub sums : (f g : ℕ → ℕ) (bs : List ℕ) → lanes w (each f bs) + lanes w (each g bs) ≡ lanes w (each (λ b. f b + g b) bs)
  sums f g [] = refl
  sums f g (b ∷ bs) = sym (ap (λ (x : ℕ). x * 2 ^ w + (f b + g b)) (sym (sums f g bs)) ∙ omega arith)

  pub times : (c : ℕ) (f : ℕ → ℕ) (bs : List ℕ) → lanes w (each f bs) * c ≡ lanes w (each (λ b. f b * c) bs)
  times c f [] = omega arith
  times c f (b ∷ bs) = sym (ap (λ (x : ℕ). x * 2 ^ w + f b * c) (sym (times c f bs)) ∙ omega arith)

  -- two rules that agree wherever P holds make the same word
  pub agree : (P : ℕ → Type 0) (f g : ℕ → ℕ) → ((b : ℕ) → P b → f b ≡ g b) → (bs : List ℕ) → All P bs → lanes w (each f bs) ≡ lanes w (each g bs)
  agree P f g e [] h = refl
  agree P f g e (b ∷ bs) h = ap₂ (λ (x y : ℕ). x * 2 ^ w + y) (agree P f g e bs h.1) (e b h.0)

  -- a mask that is the same in every lane
  pub masked : (P : ℕ → Type 0) (mask t : ℕ) (f g : ℕ → ℕ) → mask < 2 ^ w → ((b : ℕ) → bit_and b mask ≡ f b * t) → ((b : ℕ) → P b → g b < 2 ^ w) → (bs : List ℕ) → All P bs
      → bit_and (lanes w (each g bs)) (lanes w (each (λ b. mask) bs)) ≡ lanes w (each (λ b. f (g b)) bs) * t
  masked P mask t f g room is fits [] h = omega arith
  masked P mask t f g room is fits (b ∷ bs) h =
      and_block w (lanes w (each g bs)) (lanes w (each (λ b. mask) bs)) (g b) mask (fits b h.0) room
      ∙ ap₂ (λ (x y : ℕ). x * 2 ^ w + y) (masked P mask t f g room is fits bs h.1) (is (g b))
      ∙ omega arith

  -- lane k, counted from the lowest
  pub lane_at : (bs : List ℕ) → Below (2 ^ w) bs → (k : ℕ) → lanes w bs / (2 ^ w) ^ k % 2 ^ w ≡ get_or bs k 0
  lane_at [] h k = ap (λ (x : ℕ). x % 2 ^ w) (zero-div ((2 ^ w) ^ k)) ∙ zero-mod (2 ^ w)
  lane_at (b ∷ bs) h zero = ap (λ (x : ℕ). (lanes w bs * 2 ^ w + b) / x % 2 ^ w) (pow-zero (2 ^ w)) ∙ ap (λ (x : ℕ). x % 2 ^ w) (div-one (lanes w bs * 2 ^ w + b)) ∙ digits_mod (lanes w bs) h.0
  lane_at (b ∷ bs) h (suc k) =
      ap (λ (x : ℕ). (lanes w bs * 2 ^ w + b) / x % 2 ^ w) (pow-succ' (2 ^ w) k)
      ∙ ap (λ (x : ℕ). x % 2 ^ w) (sym (div-div-eq-div-mul (lanes w bs * 2 ^ w + b) (2 ^ w) ((2 ^ w) ^ k)))
      ∙ ap (λ (x : ℕ). x / (2 ^ w) ^ k % 2 ^ w) (digits_div (lanes w bs) h.0)
      ∙ lane_at bs h.1 k

-- ---- each lane split in two

-- into f and g of it, each half as wide
abbrev pub split : (ℕ → ℕ) → (ℕ → ℕ) → List ℕ → List ℕ
split f g [] = []
split f g (b ∷ bs) = f b ∷ g b ∷ split f g bs

pub split_sum : (w : ℕ) (f g : ℕ → ℕ) (bs : List ℕ) → lanes (w + w) (each f bs) + lanes (w + w) (each g bs) * 2 ^ w ≡ lanes w (split f g bs)
split_sum w f g [] = omega arith
split_sum w f g (b ∷ bs) =
    let x : ℕ = lanes (w + w) (each f bs) in
    let y : ℕ = lanes (w + w) (each g bs) in
    ap (λ (q : ℕ). x * q + f b + (y * q + g b) * 2 ^ w) (pow-add 2 w w)
    ∙ regrouped x y (f b) (g b) (2 ^ w)
    ∙ ap (λ (z : ℕ). (z * 2 ^ w + g b) * 2 ^ w + f b) (split_sum w f g bs)
  where
    regrouped : (x y a b p : ℕ) → x * (p * p) + a + (y * (p * p) + b) * p ≡ ((x + y * p) * p + b) * p + a
    regrouped x y a b p = omega arith

-- the h bits above the lowest h, and the lowest h
module _ (h : ℕ) where
  abbrev pub upper_half : ℕ → ℕ
  upper_half b = b / 2 ^ h % 2 ^ h

  abbrev pub lower_half : ℕ → ℕ
  lower_half b = b % 2 ^ h

  pub split_below : (bs : List ℕ) → Below (2 ^ h) (split upper_half lower_half bs)
  split_below [] = tt
  split_below (b ∷ bs) = (mod-lt (b / 2 ^ h) (pow_pos h), (mod-lt b (pow_pos h), split_below bs))

  -- the code splits a lane of 4 h bits, of which 2 h are used, by two masks
  pub split_by_masks : (m : ℕ) → 2 ^ (h + h) - 2 ^ h < 2 ^ (h + h + (h + h)) → 2 ^ h - 1 < 2 ^ (h + h + (h + h)) → ((b : ℕ) → b < m → b < 2 ^ (h + h + (h + h))) → (bs : List ℕ) → Below m bs
      → bit_and (lanes (h + h + (h + h)) (each (λ b. b) bs)) (lanes (h + h + (h + h)) (each (λ b. 2 ^ (h + h) - 2 ^ h) bs)) / 2 ^ h
      + bit_and (lanes (h + h + (h + h)) (each (λ b. b) bs)) (lanes (h + h + (h + h)) (each (λ b. 2 ^ h - 1) bs)) * 2 ^ (h + h)
      ≡ lanes (h + h) (split upper_half lower_half bs)
  split_by_masks m high low fits bs below =
      ap₂ (λ (x y : ℕ). x / 2 ^ h + y * 2 ^ (h + h))
      (masked (h + h + (h + h)) (λ b. b < m) (2 ^ (h + h) - 2 ^ h) (2 ^ h) upper_half (λ b. b) high (λ b. and_high b h h) fits bs below)
      (masked (h + h + (h + h)) (λ b. b < m) (2 ^ h - 1) 1 lower_half (λ b. b) low (λ b. and_mask b h ∙ sym (mul-one (b % 2 ^ h))) fits bs below)
      ∙ ap₂ (λ (x y : ℕ). x + y * 2 ^ (h + h)) (mul-div_cancel (lanes (h + h + (h + h)) (each upper_half bs)) (pow_pos h)) (mul-one (lanes (h + h + (h + h)) (each lower_half bs)))
      ∙ split_sum (h + h) upper_half lower_half bs

-- ---- two lanes joined

-- every other lane, from the first on or from the second
abbrev pub alternate : Bool → List ℕ → List ℕ
alternate first [] = []
alternate true (b ∷ bs) = b ∷ alternate false bs
alternate false (b ∷ bs) = alternate true bs

-- each two numbers as one, the first h bits higher than the second; a last one alone is joined with 0
abbrev pub join_pairs : ℕ → List ℕ → List ℕ
join_pairs h [] = []
join_pairs h (a ∷ []) = (a * 2 ^ h + 0) ∷ []
join_pairs h (a ∷ b ∷ bs) = (a * 2 ^ h + b) ∷ join_pairs h bs

pub join_below : (h : ℕ) (bs : List ℕ) → Below (2 ^ h) bs → Below (2 ^ h * 2 ^ h) (join_pairs h bs)
join_below h [] below = tt
join_below h (a ∷ []) below = (digits_lt below.0 (pow_pos h), tt)
join_below h (a ∷ b ∷ bs) below = (digits_lt below.0 below.1.0, join_below h bs below.1.1)

module _ (h : ℕ) (room : 2 ^ h - 1 < 2 ^ (h + h + (h + h))) (wide : (b : ℕ) → b < 2 ^ h → b < 2 ^ (h + h)) where
  -- the mask keeps the first of two lanes of 2 h bits
  mask_keeps_first : (r m b a : ℕ) → b < 2 ^ h → a < 2 ^ h
      → bit_and ((r * 2 ^ (h + h) + b) * 2 ^ (h + h) + a) (m * 2 ^ (h + h + (h + h)) + (2 ^ h - 1)) ≡ bit_and r m * 2 ^ (h + h + (h + h)) + a
  mask_keeps_first r m b a hb ha =
      let square : 2 ^ (h + h + (h + h)) ≡ 2 ^ (h + h) * 2 ^ (h + h) = pow-add 2 (h + h) (h + h) in
      let fits : b * 2 ^ (h + h) + a < 2 ^ (h + h + (h + h)) = subst (λ (n : ℕ). b * 2 ^ (h + h) + a < n) (sym square) (digits_lt (wide b hb) (wide a ha)) in
      ap (λ (x : ℕ). bit_and x (m * 2 ^ (h + h + (h + h)) + (2 ^ h - 1)))
      (regrouped r b a (2 ^ (h + h)) ∙ ap (λ (x : ℕ). r * x + (b * 2 ^ (h + h) + a)) (sym square))
      ∙ and_block (h + h + (h + h)) r m (b * 2 ^ (h + h) + a) (2 ^ h - 1) fits room
      ∙ ap (λ (x : ℕ). bit_and r m * 2 ^ (h + h + (h + h)) + x) (and_mask (b * 2 ^ (h + h) + a) h ∙ lowest)
    where
      regrouped : (r b a p : ℕ) → (r * p + b) * p + a ≡ r * (p * p) + (b * p + a)
      regrouped r b a p = omega arith

      lowest : (b * 2 ^ (h + h) + a) % 2 ^ h ≡ a
      lowest =
          ap (λ (x : ℕ). (b * x + a) % 2 ^ h) (pow-add 2 h h) ∙ ap (λ (x : ℕ). (x + a) % 2 ^ h) (sym (mul_assoc b (2 ^ h) (2 ^ h)))
          ∙ digits_mod (b * 2 ^ h) ha

  mask_keeps_alternate : (bs : List ℕ) → Below (2 ^ h) bs
      → bit_and (lanes (h + h) bs) (lanes (h + h + (h + h)) (each (λ b. 2 ^ h - 1) (alternate true bs))) ≡ lanes (h + h + (h + h)) (alternate true bs)
  mask_keeps_alternate [] below = refl
  mask_keeps_alternate (a ∷ []) below =
      let alone : 0 * 2 ^ (h + h) + a ≡ (0 * 2 ^ (h + h) + 0) * 2 ^ (h + h) + a = omega arith in
      ap (λ (x : ℕ). bit_and x (0 * 2 ^ (h + h + (h + h)) + (2 ^ h - 1))) alone ∙ mask_keeps_first 0 0 0 a (pow_pos h) below.0
  mask_keeps_alternate (a ∷ b ∷ bs) below =
      mask_keeps_first (lanes (h + h) bs) (lanes (h + h + (h + h)) (each (λ b. 2 ^ h - 1) (alternate true bs))) b a below.1.0 below.0
      ∙ ap (λ (x : ℕ). x * 2 ^ (h + h + (h + h)) + a) (mask_keeps_alternate bs below.1.1)

  join_sum : (w : ℕ) (bs : List ℕ) → lanes w (alternate true bs) * 2 ^ h + lanes w (alternate false bs) ≡ lanes w (join_pairs h bs)
  join_sum w [] = omega arith
  join_sum w (a ∷ []) = omega arith
  join_sum w (a ∷ b ∷ bs) =
      regrouped (lanes w (alternate true bs)) (lanes w (alternate false bs)) a b (2 ^ w) (2 ^ h) ∙ ap (λ (x : ℕ). x * 2 ^ w + (a * 2 ^ h + b)) (join_sum w bs)
    where
      regrouped : (x y a b p q : ℕ) → (x * p + a) * q + (y * p + b) ≡ (x * q + y) * p + (a * q + b)
      regrouped x y a b p q = omega arith

  pub join_by_masks : (a : ℕ) (bs : List ℕ) → Below (2 ^ h) (a ∷ bs)
      → bit_and (lanes (h + h) (a ∷ bs)) (lanes (h + h + (h + h)) (each (λ b. 2 ^ h - 1) (alternate true (a ∷ bs)))) * 2 ^ h
      + bit_and (lanes (h + h) (a ∷ bs) / 2 ^ (h + h)) (lanes (h + h + (h + h)) (each (λ b. 2 ^ h - 1) (alternate true bs)))
      ≡ lanes (h + h + (h + h)) (join_pairs h (a ∷ bs))
  join_by_masks a bs below =
      ap₂ (λ (x y : ℕ). x * 2 ^ h + y) (mask_keeps_alternate (a ∷ bs) below)
      (ap (λ (x : ℕ). bit_and x (lanes (h + h + (h + h)) (each (λ b. 2 ^ h - 1) (alternate true bs)))) (digits_div (lanes (h + h) bs) (wide a below.0)) ∙ mask_keeps_alternate bs below.1)
      ∙ join_sum (h + h + (h + h)) (a ∷ bs)
