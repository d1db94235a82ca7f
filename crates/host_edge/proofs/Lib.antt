mod GiftLemmas
