-- Serves Layout.antt.
-- Each word has an index of its own, which determines the word.
use Rattle.chip_net.proofs.Names.{◌≡◌, ◌≢◌, ℕ, ◌+◌, ◌-◌, ◌*◌, ◌/◌, ◌%◌, ◌<◌, List, length, set, arith}
use Rattle.chip_net.proofs.Names.{cond, ltb, lt-ltb, le-ltb, get_or-set_same, get_or-set_other, div-add-mod'}
use Rattle.chip_net.proofs.Names.{mul-add-lt, div-mul-add, Setting, IsSetting, all_edges, Word, of_edge, of_acks}
use Rattle.chip_net.proofs.Names.{of_cell, of_vertex, IsWord, Event, Mine, Grows, first_cell, first_fired, index_of}
use Rattle.chip_net.proofs.Names.{word_count, value_in}

-- the word with this index
abbrev word_at : Setting → ℕ → Word
word_at g n = cond (ltb n (all_edges g)) (of_edge n) (cond (ltb n (first_cell g)) (of_acks (n - all_edges g))
    (cond (ltb n (first_fired g)) (of_cell ((n - first_cell g) / g.ring) ((n - first_cell g) % g.ring))
    (of_vertex (n - first_fired g))))

-- the edge or the vertex of a word
abbrev pub owner_of : Word → ℕ
owner_of (of_edge e) = e
owner_of (of_acks e) = e
owner_of (of_cell e i) = e
owner_of (of_vertex v) = v

-- and so by the index of the word
abbrev pub owner_at : Setting → ℕ → ℕ
owner_at g n = owner_of (word_at g n)

-- the effect of a step on the word with this index, whose event is of that kind
abbrev pub by_word : (ℕ → Event) → Setting → ℕ → Mine → ℕ → Mine → Type 0
by_word kind g n = Grows g (kind (owner_at g n))

module _ (g : Setting) where
  below : (e i : ℕ) → e < all_edges g → i < g.ring → index_of g (of_cell e i) < first_fired g
  below e i l h = let b : e * g.ring + i < g.ring * all_edges g = mul-add-lt e g.ring i (all_edges g) l h in omega arith

  read_back : (w : Word) → IsWord g w → word_at g (index_of g w) ≡ w
  read_back (of_edge e) l = rw (lt-ltb e (all_edges g) l)
  read_back (of_acks e) l =
      let n : ℕ = all_edges g + e in let back : n - all_edges g ≡ e = omega arith in
      rw (le-ltb n (all_edges g) (omega arith), lt-ltb n (first_cell g) (omega arith), back)
  read_back (of_cell e i) l =
      let n : ℕ = first_cell g + (e * g.ring + i) in
      let m : n - first_cell g ≡ e * g.ring + i = omega arith in
      let edge : (n - first_cell g) / g.ring ≡ e = rw m (div-mul-add e g.ring i l.1) in
      let cell : (n - first_cell g) % g.ring ≡ i =
      (let whole = rw edge at (div-add-mod' (n - first_cell g) g.ring) in omega arith) in
      rw (
        le-ltb n (all_edges g) (omega arith),
        le-ltb n (first_cell g) (omega arith),
        lt-ltb n (first_fired g) (below e i l.0 l.1),
        edge,
        cell,
      )
  read_back (of_vertex v) l =
      let n : ℕ = first_fired g + v in let back : n - first_fired g ≡ v = omega arith in
      rw (
        le-ltb n (all_edges g) (omega arith),
        le-ltb n (first_cell g) (omega arith),
        le-ltb n (first_fired g) (omega arith),
        back,
      )

  pub owner_read : (w : Word) → IsWord g w → (n : ℕ) → n ≡ index_of g w → owner_at g n ≡ owner_of w
  owner_read w l n is = rw (is, read_back w l)

  one_word : (p q : Word) → IsWord g p → IsWord g q → index_of g p ≡ index_of g q → p ≡ q
  one_word p q l m is = rw (← read_back p l, is) (read_back q m)

  pub inside : (q : Word) → IsWord g q → index_of g q < word_count g
  inside (of_edge e) l = omega arith
  inside (of_acks e) l = omega arith
  inside (of_cell e i) l = let b = below e i l.0 l.1 in omega arith
  inside (of_vertex v) l = omega arith

  pub some_words : {n : ℕ} → n ≡ word_count g → IsSetting g → 0 < n
  some_words is setting = let some = setting.game.graph_fits.some_vertex in omega arith

  -- if one word is written
  module _ (words : List ℕ) (wide : length words ≡ word_count g) (p : Word) (valid : IsWord g p) (new : ℕ) where
    pub written_here : value_in g (set words (index_of g p) new) p ≡ new
    written_here = let l = inside p valid in get_or-set_same words (index_of g p) new 0 (omega arith)

    pub written_else : (q : Word) → IsWord g q → q ≢ p
        → value_in g (set words (index_of g p) new) q ≡ value_in g words q
    written_else q ok other = get_or-set_other words (index_of g p) (index_of g q) new 0
        (λ z. other (one_word q p ok valid z))
