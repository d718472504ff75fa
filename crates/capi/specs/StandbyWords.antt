-- The standby's state as 80 words and two processor states: U M D B S, T, the count of ticks, the mode, the last
-- received epoch, staged, due, then 64 block numbers, then the blocks of this epoch, its BLOCK records, its pages, the
-- next page, STATE seen; the staged and the kept processor state are lent as bytes. Assumes nothing.
use Rattle.std.specs.Prelude.{ℕ, Bool, ◌&&◌, cond, List, [], ◌∷◌, ◌++◌, leb, eqb, length, get_or}
use Rattle.lists.specs.Part.{part}
use Rattle.rules.specs.declared.Mode.{Mode}
use Rattle.rules.specs.declared.Mode.TheVariants.{Receiving, TakingOver, Active}
use Rattle.rules.specs.declared.Standby.{Standby}
use Rattle.capi.specs.Word.{fits32, all_fit32, between, is_flag, flag_of, flag_word}

abbrev pub standby_length : ℕ
standby_length = 80

-- where the block numbers begin, and how many they are
abbrev pub numbers_at : ℕ
numbers_at = 11

abbrev pub numbers_many : ℕ
numbers_many = 64

-- ---- a mode: 0, 1 or 2
abbrev pub is_mode : ℕ → Bool
is_mode n = leb n 2

abbrev pub mode_of : ℕ → Mode
mode_of n = cond (eqb n 0) Receiving (cond (eqb n 1) TakingOver Active)

abbrev pub mode_word : Mode → ℕ
mode_word Receiving = 0
mode_word TakingOver = 1
mode_word Active = 2

-- ---- the words of a state
unfoldable pub first_words : Standby → List ℕ
first_words s =
    s.settings.u ∷ s.settings.m ∷ s.settings.d ∷ s.settings.b ∷ s.settings.s
    ∷ s.detector.patience ∷ s.detector.count ∷ mode_word s.mode ∷ s.received ∷ s.slots.staged ∷ s.slots.due ∷ []

unfoldable pub last_words : Standby → List ℕ
last_words s = s.blocks ∷ s.records ∷ s.pages ∷ s.next ∷ flag_word s.seen ∷ []

unfoldable pub standby_words : Standby → List ℕ
standby_words s = first_words s ++ s.slots.numbers ++ last_words s

-- ---- words that are a state
unfoldable pub standby_words_ok : List ℕ → Bool
standby_words_ok w =
    eqb (length w) standby_length
    && all_fit32 (between 5 7 w)
    && is_mode (get_or w 7 0)
    && fits32 (get_or w 8 0)
    && is_flag (get_or w 79 0)

-- ---- and the state of such words and of the two processor states
unfoldable pub standby_of : List ℕ → List ℕ → List ℕ → Standby
standby_of w pending processor =
    record {
      settings = record { u = get_or w 0 0; m = get_or w 1 0; d = get_or w 2 0; b = get_or w 3 0; s = get_or w 4 0 };
      detector = record { patience = get_or w 5 0; count = get_or w 6 0 };
      mode = mode_of (get_or w 7 0);
      received = get_or w 8 0;
      slots = record { staged = get_or w 9 0; due = get_or w 10 0; numbers = part numbers_at numbers_many w };
      blocks = get_or w 75 0;
      records = get_or w 76 0;
      pages = get_or w 77 0;
      next = get_or w 78 0;
      seen = flag_of (get_or w 79 0);
      pending = pending;
      processor = processor;
    }
