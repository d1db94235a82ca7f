-- What small lives of a host give.
use Rattle.std.proofs.Common.{◌≡◌, ℕ, true, List, [], ◌∷◌, refl, arith, lit<}
use Rattle.std.specs.Prelude.{bytes_eq, nat_eq}
use Rattle.sha2.specs.Sha256.{sha256}
use Rattle.host_core.proofs.Closing.{same_test}
use Rattle.host_core.specs.Samples.{sample_message}
use Rattle.host_lives.specs.Lives.{AreLives}
use Rattle.host_lives.specs.Samples.{first_life, before_told, KnownDeviceSample, ClosedForGoodSample}

-- bytes are equal to themselves
same_bytes : (xs : List ℕ) → bytes_eq xs xs ≡ true
same_bytes [] = refl
same_bytes (x ∷ xs) = let head : nat_eq x x ≡ true = same_test x in rw (head, same_bytes xs) refl

first_lives : (document secret : List ℕ) → AreLives [] (first_life document secret)
first_lives document secret = (
  (tt, tt),
  (
    (refl, tt),
    (
      (rw (same_bytes document, same_bytes (sha256 secret)) refl, (refl, refl)),
      (
        ((refl, lit< tt), tt),
        (
          (refl, tt),
          ((refl, record { administrator = refl; journal = refl; none_held = refl }), (refl, tt)),
        ),
      ),
    ),
  ),
)

pub known_device_sample : KnownDeviceSample
known_device_sample document secret = (
  first_lives document secret,
  record { more = []; lost = sample_message ∷ []; has_saved = refl; was_made = refl },
  record { more = sample_message ∷ []; lost = []; has_saved = refl; was_made = refl },
  record { more = []; lost = []; has_saved = refl; was_made = refl },
)

-- up to the close
told_lives : (document secret : List ℕ) → AreLives [] (before_told document secret)
told_lives document secret = ((refl, tt), (tt, first_lives document secret))

pub closed_for_good_sample : ClosedForGoodSample
closed_for_good_sample document secret = (
  (record { link = _; open_is = refl; next = refl; saved = omega arith }, tt),
  (
    (rw (same_bytes document, same_bytes (sha256 secret)) refl, (refl, refl)),
    (
      ((refl, lit< tt), tt),
      (
        (refl, tt),
        (
          ((refl, lit< tt), tt),
          (
            (refl, tt),
            (
              (refl, record { administrator = refl; journal = refl; none_held = refl }),
              (
                refl,
                (
                  record { more = []; lost = []; has_saved = refl; was_made = refl },
                  ((refl, refl), told_lives document secret),
                ),
              ),
            ),
          ),
        ),
      ),
    ),
  ),
)
