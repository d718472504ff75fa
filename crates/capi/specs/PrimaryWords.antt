-- The primary's state as 272 words: U M D B Q L, T, the count of ticks, the open epoch, the acknowledged one, alone,
-- the blocks of the open epoch, its BLOCK records, the waiting bytes, the packets held, the bytes held, then 64 times a
-- packet's epoch, length and port, then the 64 numbers of the open epoch's blocks. Assumes nothing.
use Rattle.std.specs.Prelude.{ℕ, Bool, true, ◌&&◌, List, [], ◌∷◌, ◌++◌, eqb, length, get_or, drop}
use Rattle.queue.specs.declared.Packet.{Packet}
use Rattle.rules.specs.declared.Primary.{Primary}
use Rattle.capi.specs.Word.{fits32, fits16, all_fit32, all_fit16, between, is_flag, flag_of, flag_word}

abbrev pub primary_length : ℕ
primary_length = 272

-- where the packets begin, and where the block numbers do
abbrev pub packets_at : ℕ
packets_at = 16

abbrev pub written_at : ℕ
written_at = 208

abbrev pub packets_in : List ℕ → List ℕ
packets_in w = between packets_at written_at w

abbrev pub written_in : List ℕ → List ℕ
written_in w = drop written_at w

-- ---- the words of a state
unfoldable pub head_words : Primary → List ℕ
head_words p =
    p.settings.u ∷ p.settings.m ∷ p.settings.d ∷ p.settings.b ∷ p.settings.q ∷ p.settings.l
    ∷ p.detector.patience ∷ p.detector.count ∷ p.epoch ∷ p.acknowledged ∷ flag_word p.alone
    ∷ p.blocks ∷ p.records ∷ p.waiting ∷ p.queue.count ∷ p.queue.bytes ∷ []

unfoldable pub packet_words : List Packet → List ℕ
packet_words [] = []
packet_words (k ∷ ks) = k.epoch ∷ k.length ∷ k.port ∷ packet_words ks

unfoldable pub primary_words : Primary → List ℕ
primary_words p = head_words p ++ (packet_words p.queue.packets ++ p.numbers)

-- ---- words that are a state: as many as there are, each number fits its field of 32 bits, a packet's length and port
-- and each block number theirs of 16 bits, and alone is a flag
unfoldable pub packets_fit : List ℕ → Bool
packets_fit [] = true
packets_fit (epoch ∷ []) = true
packets_fit (epoch ∷ length ∷ []) = true
packets_fit (epoch ∷ length ∷ port ∷ w) = fits32 epoch && fits16 length && fits16 port && packets_fit w

unfoldable pub primary_words_ok : List ℕ → Bool
primary_words_ok w =
    eqb (length w) primary_length
    && all_fit32 (between 6 10 w)
    && is_flag (get_or w 10 0)
    && packets_fit (packets_in w)
    && all_fit16 (written_in w)

-- ---- and the state of such words
unfoldable pub packets_of : List ℕ → List Packet
packets_of [] = []
packets_of (epoch ∷ []) = []
packets_of (epoch ∷ length ∷ []) = []
packets_of (epoch ∷ length ∷ port ∷ w) = record { epoch = epoch; length = length; port = port } ∷ packets_of w

unfoldable pub primary_of : List ℕ → Primary
primary_of w =
    record {
      settings = record { u = get_or w 0 0; m = get_or w 1 0; d = get_or w 2 0; b = get_or w 3 0; q = get_or w 4 0; l = get_or w 5 0 };
      detector = record { patience = get_or w 6 0; count = get_or w 7 0 };
      epoch = get_or w 8 0;
      acknowledged = get_or w 9 0;
      alone = flag_of (get_or w 10 0);
      blocks = get_or w 11 0;
      records = get_or w 12 0;
      waiting = get_or w 13 0;
      queue = record { count = get_or w 14 0; bytes = get_or w 15 0; packets = packets_of (packets_in w) };
      numbers = written_in w;
    }
