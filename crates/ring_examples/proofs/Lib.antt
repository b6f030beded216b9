mod ZeroSpace
